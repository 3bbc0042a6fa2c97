-- What is spelled is read.
use Rattle.std.proofs.Common.{◌≡◌, ◌≢◌, ℕ, true, cond, List, [], ◌∷◌, ◌++◌, Some, refl, ap, ◌∙◌, append_assoc}
use Rattle.cards.specs.declared.seat.Seat.{Seat as ASeat}
use Rattle.cards.specs.declared.seat.Seat.TheVariants.{North}
use Rattle.cards.specs.declared.suit.Suit.{Suit as ASuit}
use Rattle.cards.specs.declared.suit.Suit.TheVariants.{Spades}
use Rattle.conditions.specs.declared.tree.Count.{Count}
use Rattle.conditions.specs.declared.tree.Item.{Item}
use Rattle.conditions.specs.declared.tree.Item.TheVariants.{Length, Any}
use Rattle.conditions.specs.declared.tree.Op.{Op}
use Rattle.cond_lang.specs.declared.classes.Bound.{Bound}
use Rattle.cond_lang.specs.declared.classes.Choice.{Choice}
use Rattle.cond_lang.specs.declared.classes.Class.{Class as AClass}
use Rattle.cond_lang.specs.declared.classes.Params.{Params}
use Rattle.cond_lang.specs.declared.classes.Params.TheVariants.{OfSeat, OfBoth}
use Rattle.cond_lang.specs.declared.classes.Quantifier.{Quantifier as AQuantifier}
use Rattle.cond_lang.specs.declared.scanner.Token.{Token}
use Rattle.cond_lang.specs.declared.scanner.Token.TheVariants.{Or, And, Not, Quantifier, In, Dash, Number, Class}
use Rattle.cond_lang.specs.declared.scanner.Token.TheVariants.{Open, Close, Comma, Plus, Star, Relation, Name}
use Rattle.conditions.specs.Form.{Amount, sum, number, counted, times, Form, any_of, all_of, negation, compare, within, shaped, patterned}
use Rattle.cond_lang.specs.Classes.{bind, can_bind, choice, Names, by_suit, by_class, seat_beside}
use Rattle.cond_lang.specs.Grammar.{Meanings, SpellsArgs, no_args, seat_arg, suit_arg, both_args, named_value}
use Rattle.cond_lang.specs.Grammar.{named_condition, SpellsCounted, a_count, multiple, SpellsSeat, by_word, by_bound}
use Rattle.cond_lang.specs.Grammar.{beside, SpellsCount, SpellsHandTest, SpellsAtom, SpellsValue, atom, plus}
use Rattle.cond_lang.specs.Grammar.{a_number, count, measure, measure_in, len, cards, cards_in, ordered_suit}
use Rattle.cond_lang.specs.Grammar.{item_token, four, SpellsCond, both, or, SpellsBoth}
use Rattle.cond_lang.specs.Grammar.{unit, and, SpellsUnit, not, brackets, quantified, SpellsEach, none, one_more}
use Rattle.cond_lang.specs.Grammar.{test, comparison, in_range, of_hand, is_balanced, has_shape, has_pattern}
use Rattle.cond_lang.specs.Grammar.{has_stopper}
use Rattle.cond_lang.specs.internal.Reading.{got, stuck, after, front, class_seat, seat, class_suit, suit, closing}
use Rattle.cond_lang.specs.internal.Reading.{item, items, seat_and_items, count_of, count_alone, rest_of_number}
use Rattle.cond_lang.specs.internal.Reading.{number_or_count, suit_in_brackets, seat_in_brackets, seat_and_suit, args}
use Rattle.cond_lang.specs.internal.Reading.{value_used, condition_used_by, atom_of, related_by, comparing_by}
use Rattle.cond_lang.specs.internal.Reading.{a_value, sums, a_cond, a_both, a_unit, ors, ands, bracketed_by, unit_by}
use Rattle.cond_lang.specs.internal.Reading.{class, reading}
use Rattle.cond_lang.proofs.Scopes.{bindable_quantifies}
use Rattle.cond_lang.proofs.Members.{ReadsEach, each_got}
use Rattle.cond_lang.proofs.Enough.{reads}

-- a token that names a suit is read as the suit
named_reads : {E : Bound} {c : Token} {s : ASuit} → Names E c s → (B : List Token) → suit E (c ∷ B) ≡ got s B
named_reads by_suit B = refl
named_reads (by_class {c} {s} e) B = ap (λ o. class_suit o c B) e

-- tokens that name a seat are read as the seat
seat_reads : {E : Bound} {Q : List Token} {q : ASeat} → SpellsSeat E Q q → (B : List Token) → seat E (Q ++ B) ≡ got q B
seat_reads by_word B = refl
seat_reads (by_bound {c} w e) B = ap (λ o. class_seat o c B) e
seat_reads {E} (beside {n} {Q} {q} w h) B =
    ap (λ L. after (seat E L) (λ q R. closing (seat_beside n q) R)) (append_assoc Q (Close ∷ []) B)
    ∙ ap (λ o. after o (λ q R. closing (seat_beside n q) R)) (seat_reads h (Close ∷ B))

count_reads :
    {E : Bound} {c : Token} {R : List Token} {f : ASeat → Count} → SpellsCount E c R f → (Q : List Token) (q : ASeat) (B : List Token)
    → seat E (Q ++ (R ++ B)) ≡ got q (R ++ B) → count_of E (c ∷ Open ∷ (Q ++ (R ++ B))) ≡ got (f q) B
unfolding count_of
count_reads measure Q q B h = rw h refl
count_reads (measure_in i) Q q B h = rw (h, named_reads i (Close ∷ B)) refl
count_reads (len i) Q q B h = rw (h, named_reads i (Close ∷ B)) refl
count_reads cards Q q B h = rw h refl
count_reads (cards_in by_suit) Q q B h = rw h refl
count_reads (cards_in (by_class e)) Q q B h = rw (h, e) refl
count_reads (ordered_suit w) Q q B h = rw h refl

counted_reads : {E : Bound} {A : List Token} {k : Count} → SpellsCounted E A k → (B : List Token) → count_of E (A ++ B) ≡ got k B
counted_reads {E} (count {c} {Q} {R} {q} k h) B =
    ap (λ L. count_of E (c ∷ Open ∷ L)) (append_assoc Q R B) ∙ count_reads k Q q B (seat_reads h (R ++ B))

suit_in_reads : {E : Bound} {c : Token} {s : ASuit} → Names E c s → (B : List Token) → suit_in_brackets E (Open ∷ c ∷ Close ∷ B) ≡ got s B
suit_in_reads i B = rw (named_reads i (Close ∷ B)) refl

seat_in_reads : (E : Bound) (Q : List Token) (q : ASeat) (B : List Token)
    → seat E (Q ++ (Close ∷ B)) ≡ got q (Close ∷ B) → seat_in_brackets E (Open ∷ (Q ++ (Close ∷ B))) ≡ got q B
seat_in_reads E Q q B h = rw h refl

pair_reads :
    {E : Bound} {c : Token} {s : ASuit} → Names E c s → (Q : List Token) (q : ASeat) (B : List Token)
    → seat E (Q ++ (Comma ∷ c ∷ Close ∷ B)) ≡ got q (Comma ∷ c ∷ Close ∷ B) → seat_and_suit E (Open ∷ (Q ++ (Comma ∷ c ∷ Close ∷ B))) ≡ got (q, s) B
pair_reads i Q q B h = rw (h, named_reads i (Close ∷ B)) refl

-- arguments are read
pub args_read : {E : Bound} {p : Params} {T : List Token} {x : Choice} → SpellsArgs E p T x → (B : List Token) → args E p (T ++ B) ≡ got x B
args_read no_args B = refl
args_read {E} (seat_arg {Q} {q} h) B =
    ap (λ L. args E OfSeat (Open ∷ L)) (append_assoc Q (Close ∷ []) B)
    ∙ ap (λ o. after o (λ q R. got (choice Spades q) R)) (seat_in_reads E Q q B (seat_reads h (Close ∷ B)))
args_read {E} (suit_arg i) B = ap (λ o. after o (λ s R. got (choice s North) R)) (suit_in_reads i B)
args_read {E} (both_args {Q} {q} {c} h i) B =
    ap (λ L. args E OfBoth (Open ∷ L)) (append_assoc Q (Comma ∷ c ∷ Close ∷ []) B)
    ∙ ap (λ o. after o (λ p R. got (choice p.1 p.0) R)) (pair_reads i Q q B (seat_reads h (Comma ∷ c ∷ Close ∷ B)))

-- a word that counts begins no number
as_count : {E : Bound} {c : Token} {R : List Token} {f : ASeat → Count} → SpellsCount E c R f
    → (N : Meanings) (X : List Token) → atom_of N E (c ∷ X) ≡ count_alone E (c ∷ X)
unfolding atom_of number_or_count
as_count measure N X = refl
as_count h N X = refl

-- a number ends if no `*` follows
number_ends : (E : Bound) (n : ℕ) (B : List Token) → front B ≢ Some Star → rest_of_number E n B ≡ got (number n) B
number_ends E n [] h = refl
number_ends E n (Star ∷ B) h = absurd (h refl)
number_ends E n (c ∷ B) h = refl

atom_reads : {N : Meanings} {E : Bound} {A : List Token} {a : Amount} → SpellsAtom N E A a → (B : List Token)
    → front B ≢ Some Star → atom_of N E (A ++ B) ≡ got a B
unfolding atom_of number_or_count
atom_reads {N} {E} (a_number {n}) B s = number_ends E n B s
atom_reads {N} {E} (a_count (count {c} {Q} {R} {q} k h)) B s =
    as_count k N (Open ∷ ((Q ++ R) ++ B)) ∙ ap (λ o. after o (λ k R. got (counted k) R)) (counted_reads (count k h) B)
atom_reads {N} {E} (named_value {n} {p} {f} {T} i h) B s =
    ap (λ m. value_used m E n (T ++ B)) i ∙ ap (λ o. after o (λ x R. got (f x) R)) (args_read h B)
atom_reads {N} {E} (multiple {n} w h) B s = ap (λ o. after o (λ k R. got (times n k) R)) (counted_reads h B)

-- neither `+` nor `*` follows
abbrev pub EndsValue : List Token → Type 0
EndsValue B = (front B ≢ Some Plus) × (front B ≢ Some Star)

pub value_reads : {N : Meanings} {E : Bound} {A : List Token} {a : Amount} → SpellsValue N E A a → (B : List Token)
    → front B ≢ Some Star → reading N E a_value (A ++ B) ≡ reading N E (sums a) B
value_reads {N} {E} (atom {T} {a} h) B s = reads N E a_value (T ++ B) ∙ ap (λ o. after o (λ a R. reading N E (sums a) R)) (atom_reads h B s)
value_reads {N} {E} (plus {L} {R} {a} {b} l r) B s =
    ap (reading N E a_value) (append_assoc L (Plus ∷ R) B)
    ∙ value_reads l (Plus ∷ (R ++ B)) (λ e. cc)
    ∙ reads N E (sums a) (Plus ∷ (R ++ B))
    ∙ ap (λ o. after o (λ b R. reading N E (sums (sum a b)) R)) (atom_reads r B s)

-- a chain of `+` ends if none follows
pub sums_stop : (N : Meanings) (E : Bound) (a : Amount) (B : List Token) → front B ≢ Some Plus → reading N E (sums a) B ≡ got a B
sums_stop N E a [] h = reads N E (sums a) []
sums_stop N E a (Plus ∷ B) h = absurd (h refl)
sums_stop N E a (c ∷ B) h = reads N E (sums a) (c ∷ B)

-- a chain of `and` ends if none follows
ands_stop : (N : Meanings) (E : Bound) (a : Form) (B : List Token) → front B ≢ Some And → reading N E (ands a) B ≡ got a B
ands_stop N E a [] h = reads N E (ands a) []
ands_stop N E a (And ∷ B) h = absurd (h refl)
ands_stop N E a (c ∷ B) h = reads N E (ands a) (c ∷ B)

-- a chain of `or` ends if none follows
ors_stop : (N : Meanings) (E : Bound) (a : Form) (B : List Token) → front B ≢ Some Or → reading N E (ors a) B ≡ got a B
ors_stop N E a [] h = reads N E (ors a) []
ors_stop N E a (Or ∷ B) h = absurd (h refl)
ors_stop N E a (c ∷ B) h = reads N E (ors a) (c ∷ B)

compares : {N : Meanings} {E : Bound} {L R : List Token} {a b : Amount} (o : Op) → SpellsValue N E L a
    → SpellsValue N E R b → (B : List Token) → EndsValue B
    → comparing_by (reading N) E (L ++ (Relation o ∷ (R ++ B))) ≡ got (compare a o b) B
compares {N} {E} {L} {R} {a} {b} o l r B n =
    ap (λ v. after v (λ a S. related_by (reading N) E a S))
    (value_reads l (Relation o ∷ (R ++ B)) (λ e. cc) ∙ sums_stop N E a (Relation o ∷ (R ++ B)) (λ e. cc))
    ∙ ap (λ v. after v (λ b S. got (compare a o b) S)) (value_reads r B n.1 ∙ sums_stop N E b B n.0)

ranges : {N : Meanings} {E : Bound} {L : List Token} {a : Amount} (m n : ℕ) → SpellsValue N E L a → (B : List Token)
    → comparing_by (reading N) E (L ++ (In ∷ Number m ∷ Dash ∷ Number n ∷ B)) ≡ got (within a m n) B
ranges {N} {E} {L} {a} m n l B =
    ap (λ v. after v (λ a S. related_by (reading N) E a S))
    (value_reads l (In ∷ Number m ∷ Dash ∷ Number n ∷ B) (λ e. cc) ∙ sums_stop N E a (In ∷ Number m ∷ Dash ∷ Number n ∷ B) (λ e. cc))

count_compares : {E : Bound} {c : Token} {R : List Token} {f : ASeat → Count} → SpellsCount E c R f
    → (N : Meanings) (X : List Token) → unit_by N (reading N) E (c ∷ X) ≡ comparing_by (reading N) E (c ∷ X)
count_compares measure N X = refl
count_compares h N X = refl

atom_compares : {N : Meanings} {E : Bound} {L : List Token} {a : Amount} → SpellsAtom N E L a → (X : List Token)
    → unit_by N (reading N) E (L ++ X) ≡ comparing_by (reading N) E (L ++ X)
atom_compares a_number X = refl
atom_compares {N} (a_count (count {Q} {R} k h)) X = count_compares k N (Open ∷ ((Q ++ R) ++ X))
atom_compares (multiple w h) X = refl
atom_compares {N} {E} (named_value {n} {T} i h) X = ap (λ m. condition_used_by m (reading N) E n (T ++ X)) i

pub unit_compares : {N : Meanings} {E : Bound} {L : List Token} {a : Amount} → SpellsValue N E L a → (X : List Token)
    → unit_by N (reading N) E (L ++ X) ≡ comparing_by (reading N) E (L ++ X)
unit_compares (atom h) X = atom_compares h X
unit_compares (plus {L} {R} l r) X = rw (append_assoc L (Plus ∷ R) X) (unit_compares l (Plus ∷ (R ++ X)))

item_reads : (i : Item) (B : List Token) → item (item_token i ∷ B) ≡ got i B
item_reads (Length n) B = refl
item_reads Any B = refl

four_reads :
    (E : Bound) (Q : List Token) (q : ASeat) (a b c d : Item) (B : List Token) → seat E (Q ++ (four a b c d ++ B)) ≡ got q (four a b c d ++ B)
    → seat_and_items E (Open ∷ (Q ++ (four a b c d ++ B))) ≡ got (q, (a ∷ b ∷ c ∷ d ∷ [])) B
unfolding seat_and_items items
four_reads E Q q a b c d B h =
    rw (
      h,
      item_reads a (Dash ∷ item_token b ∷ Dash ∷ item_token c ∷ Dash ∷ item_token d ∷ Close ∷ B),
      item_reads b (Dash ∷ item_token c ∷ Dash ∷ item_token d ∷ Close ∷ B),
      item_reads c (Dash ∷ item_token d ∷ Close ∷ B),
      item_reads d (Close ∷ B),
    ) refl

-- a test of a hand, after its seat is read
hand_reads :
    {E : Bound} {c : Token} {R : List Token} {f : ASeat → Form} → SpellsHandTest E c R f
    → (N : Meanings) (Q : List Token) (q : ASeat) (B : List Token)
    → seat E (Q ++ (R ++ B)) ≡ got q (R ++ B) → unit_by N (reading N) E (c ∷ Open ∷ (Q ++ (R ++ B))) ≡ got (f q) B
hand_reads is_balanced N Q q B h = rw h refl
hand_reads {E} (has_shape a b c d) N Q q B h = ap (λ o. after o (λ p R. got (shaped p.0 p.1) R)) (four_reads E Q q a b c d B h)
hand_reads {E} (has_pattern a b c d) N Q q B h = ap (λ o. after o (λ p R. got (patterned p.0 p.1) R)) (four_reads E Q q a b c d B h)
hand_reads (has_stopper w i) N Q q B h = rw (h, named_reads i (Close ∷ B)) refl

class_reads : (E : Bound) (c : AClass) (S : List Token) → can_bind E c ≡ true → class E (Class c ∷ S) ≡ got c S
class_reads E c S b = ap (λ b. cond b (got c S) (stuck (Class c ∷ S))) b

-- a quantifier leads to its class and its brackets
quantifier_reads : (N : Meanings) (E : Bound) (k : AQuantifier) (c : AClass) (S : List Token) → can_bind E c ≡ true
    → unit_by N (reading N) E (Quantifier k ∷ Class c ∷ S) ≡ bracketed_by (reading N) E k c S
quantifier_reads N E k c S b =
    ap (λ b. after (cond b (got k (Class c ∷ S)) (stuck (Quantifier k ∷ Class c ∷ S)))
    (λ k S. after (class E S) (λ c S. bracketed_by (reading N) E k c S))) (bindable_quantifies E c b)
    ∙ ap (λ o. after o (λ c S. bracketed_by (reading N) E k c S)) (class_reads E c S b)

module _ {N : Meanings} where
  mutual
    pub spelled_unit : {E : Bound} {A : List Token} {t : Form} → SpellsUnit N E A t → (B : List Token) → EndsValue B
        → reading N E a_unit (A ++ B) ≡ got t B
    spelled_unit {E} (not {T} {t} h) B n =
        reads N E a_unit (Not ∷ T ++ B) ∙ ap (λ o. after o (λ t R. got (negation t) R)) (spelled_unit h B n)
    spelled_unit {E} (brackets {T} {t} h) B n =
        reads N E a_unit (Open ∷ (T ++ Close ∷ []) ++ B)
        ∙ ap (λ L. after (reading N E a_cond L) closing) (append_assoc T (Close ∷ []) B)
        ∙ ap (λ o. after o closing) (spelled_cond h (Close ∷ B) (λ e. cc) (λ e. cc, λ e. cc) ∙ reads N E (ors t) (Close ∷ B))
    spelled_unit {E} (quantified {k} {c} {T} {t} {ts} w b each) B n =
        reads N E a_unit (Quantifier k ∷ Class c ∷ Open ∷ (T ++ Close ∷ []) ++ B)
        ∙ quantifier_reads N E k c (Open ∷ (T ++ Close ∷ []) ++ B) b
        ∙ ap (λ L. bracketed_by (reading N) E k c (Open ∷ L)) (append_assoc T (Close ∷ []) B)
        ∙ ap (λ o. after o closing) (each_got (reading N) E k c (T ++ Close ∷ B) (Close ∷ B) t ts (spelled_each each B))
    spelled_unit {E} (test (in_range {L} {a} {m} {n = k} l)) B n =
        ap (reading N E a_unit) (append_assoc L (In ∷ Number m ∷ Dash ∷ Number k ∷ []) B)
        ∙ reads N E a_unit (L ++ (In ∷ Number m ∷ Dash ∷ Number k ∷ B))
        ∙ unit_compares l (In ∷ Number m ∷ Dash ∷ Number k ∷ B)
        ∙ ranges m k l B
    spelled_unit {E} (test (comparison {L} {R} {a} {b} {o} l r)) B n =
        ap (reading N E a_unit) (append_assoc L (Relation o ∷ R) B)
        ∙ reads N E a_unit (L ++ (Relation o ∷ (R ++ B)))
        ∙ unit_compares l (Relation o ∷ (R ++ B))
        ∙ compares o l r B n
    spelled_unit {E} (test (named_condition {n} {p} {f} {T} i h)) B k =
        reads N E a_unit (Name n ∷ (T ++ B))
        ∙ ap (λ m. condition_used_by m (reading N) E n (T ++ B)) i
        ∙ ap (λ o. after o (λ x R. got (f x) R)) (args_read h B)
    spelled_unit {E} (test (of_hand {c} {Q} {R} {q} k h)) B n =
        ap (λ L. reading N E a_unit (c ∷ Open ∷ L)) (append_assoc Q R B)
        ∙ reads N E a_unit (c ∷ Open ∷ (Q ++ (R ++ B)))
        ∙ hand_reads k N Q q B (seat_reads h (R ++ B))

    pub spelled_both : {E : Bound} {A : List Token} {t : Form} → SpellsBoth N E A t → (B : List Token) → EndsValue B
        → reading N E a_both (A ++ B) ≡ reading N E (ands t) B
    spelled_both {E} (unit {T} {t} h) B n = reads N E a_both (T ++ B) ∙ ap (λ o. after o (λ a R. reading N E (ands a) R)) (spelled_unit h B n)
    spelled_both {E} (and {L} {R} {a} {b} l r) B n =
        ap (reading N E a_both) (append_assoc L (And ∷ R) B)
        ∙ spelled_both l (And ∷ (R ++ B)) (λ e. cc, λ e. cc)
        ∙ reads N E (ands a) (And ∷ (R ++ B))
        ∙ ap (λ o. after o (λ b R. reading N E (ands (all_of a b)) R)) (spelled_unit r B n)

    pub spelled_cond : {E : Bound} {A : List Token} {t : Form} → SpellsCond N E A t → (B : List Token)
        → front B ≢ Some And → EndsValue B → reading N E a_cond (A ++ B) ≡ reading N E (ors t) B
    spelled_cond {E} (both {T} {t} h) B n m =
        reads N E a_cond (T ++ B) ∙ ap (λ o. after o (λ a R. reading N E (ors a) R)) (spelled_both h B m ∙ ands_stop N E t B n)
    spelled_cond {E} (or {L} {R} {a} {b} l r) B n m =
        ap (reading N E a_cond) (append_assoc L (Or ∷ R) B)
        ∙ spelled_cond l (Or ∷ (R ++ B)) (λ e. cc) (λ e. cc, λ e. cc)
        ∙ reads N E (ors a) (Or ∷ (R ++ B))
        ∙ ap (λ o. after o (λ b R. reading N E (ors (any_of a b)) R)) (spelled_both r B m ∙ ands_stop N E b B n)

    spelled_each : {E : Bound} {c : AClass} {ss : List Choice} {T : List Token} {ts : List Form}
        → SpellsEach N E c ss T ts → (B : List Token) → ReadsEach (reading N) E c (T ++ Close ∷ B) (Close ∷ B) ss ts
    spelled_each none B = tt
    spelled_each {E} {c} (one_more {s} {t} h hs) B =
        (spelled_cond h (Close ∷ B) (λ e. cc) (λ e. cc, λ e. cc) ∙ reads N (bind E c s) (ors t) (Close ∷ B), spelled_each hs B)

-- a condition before a bracket or the end, and a value
pub cond_read : {N : Meanings} {E : Bound} {T : List Token} {t : Form} → SpellsCond N E T t → (B : List Token)
    → front B ≢ Some Or → front B ≢ Some And → EndsValue B → reading N E a_cond (T ++ B) ≡ got t B
cond_read {N} {E} {t} h B o n m = spelled_cond h B n m ∙ ors_stop N E t B o

pub value_read : {N : Meanings} {E : Bound} {T : List Token} {a : Amount} → SpellsValue N E T a → (B : List Token)
    → EndsValue B → reading N E a_value (T ++ B) ≡ got a B
value_read {N} {E} {a} h B n = value_reads h B n.1 ∙ sums_stop N E a B n.0
