-- A list of the first words goes wrong at the same place in the whole grammar and in the first one.
use Rattle.std.proofs.Common.{◌≡◌, ℕ, ◌+◌, List, [], ◌∷◌, ◌++◌, take, drop, take-append-drop, refl, ap, subst, arith}
use Rattle.std.specs.Prelude.{Contains, ◌↔◌}
use Rattle.std.proofs.lemmas.List.Elements.{Contains-append_left}
use Rattle.cards.specs.declared.hand.Measure.TheVariants.{Hcp}
use Rattle.cards.specs.declared.seat.Seat.{Seat as ASeat}
use Rattle.conditions.specs.declared.tree.Count.{Count}
use Rattle.conditions.specs.declared.tree.Item.{Item}
use Rattle.conditions.specs.declared.tree.Item.TheVariants.{Length, Any}
use Rattle.conditions.specs.declared.tree.Op.TheVariants.{Equal}
use Rattle.cards.specs.declared.suit.Suit.TheVariants.{Spades}
use Rattle.cond_lang.specs.declared.classes.Bound.{Bound}
use Rattle.cond_lang.specs.declared.scanner.Token.{Token}
use Rattle.cond_lang.specs.declared.scanner.Token.TheVariants.{Or, And, Not, Balanced, Shape, Pattern, Measure, Cards}
use Rattle.cond_lang.specs.declared.scanner.Token.TheVariants.{Len, Ordered, Seat, Suit, Number}
use Rattle.cond_lang.specs.declared.scanner.Token.TheVariants.{Open, Close, Comma, Plus, Relation, Let}
use Rattle.conditions.specs.Form.{Amount, number, counted, points, suit_points, suit_length, Form, any_of, all_of, negation, compare}
use Rattle.cond_lang.specs.Classes.{unbound, by_suit, by_class}
use Rattle.cond_lang.specs.Definitions.{Spells, SpellsNameless}
use Rattle.cond_lang.specs.Grammar.{named_value, named_condition, a_count, multiple, Forms, FormsAt, SpellsSeat}
use Rattle.cond_lang.specs.Grammar.{by_word, by_bound, beside, SpellsCount, SpellsAtom, a_number, count, measure}
use Rattle.cond_lang.specs.Grammar.{measure_in, len, cards, cards_in, ordered_suit}
use Rattle.cond_lang.specs.Grammar.{SpellsValue, atom, plus, item_token, four, SpellsCond, both, or, BothOf}
use Rattle.cond_lang.specs.Grammar.{SpellsBoth, unit, and, UnitOf, SpellsUnit, not, brackets, quantified, test}
use Rattle.cond_lang.specs.Grammar.{SpellsTest, comparison, in_range, of_hand, is_balanced, has_shape, has_pattern}
use Rattle.cond_lang.specs.Grammar.{has_stopper}
use Rattle.cond_lang.specs.Faults.{IsViableIn, IsFirstFaultIn, IsViable, IsFirstFault}
use Rattle.cond_lang.specs.SmallerGrammars as small
use Rattle.cond_lang.specs.SmallerGrammars.{no_additions, SpellsFirstAtom, four_numbers, FirstTestOf, SpellsInFirstGrammar, IsOldest, IsViableFirst}
use Rattle.cond_lang.proofs.Nameless.{nameless_text, same_without_names, viable_without_names}
use Rattle.cond_lang.proofs.SmallerGrammars.{after_first, same_in_first_grammar, spelled_again}

-- ---- lists that are alike up to a newer token

-- U is T up to T's first newer token, and T itself if it has none
data Keeps : List Token → List Token → Type 0 where
  newer : {c : Token} {T U : List Token} → (IsOldest c → ⊥) → Keeps (c ∷ T) U
  end : Keeps [] []
  same : {c : Token} {T U : List Token} → Keeps T U → Keeps (c ∷ T) (c ∷ U)

keeps_all : (T : List Token) → Keeps T T
keeps_all [] = end
keeps_all (c ∷ T) = same (keeps_all T)

keeps_both : {T U R S : List Token} → Keeps T U → Keeps R S → Keeps (T ++ R) (U ++ S)
keeps_both (newer n) k = newer n
keeps_both end k = k
keeps_both (same h) k = same (keeps_both h k)

-- what stands from a newer token on may be left out
keeps_before : {T U : List Token} (c : Token) (R : List Token) → (IsOldest c → ⊥) → Keeps T U → Keeps (T ++ c ∷ R) U
keeps_before c R n (newer m) = newer m
keeps_before c R n end = newer n
keeps_before c R n (same h) = same (keeps_before c R n h)

-- oldest tokens that begin T begin U too
rest_of : (L more : List Token) {U : List Token} → ((c : Token) → Contains L c → IsOldest c) → Keeps (L ++ more) U
    → (rest : List Token) × (U ≡ L ++ rest)
rest_of [] more {U} old k = (U, refl)
rest_of (c ∷ L) more old (newer n) = absurd (n (old c (0, omega arith, refl)))
rest_of (c ∷ L) more old (same h) =
    let r = rest_of L more (λ d i. old d (after_first c d L i)) h in (r.0, ap (λ T. c ∷ T) r.1)

-- ---- what the first grammar spells in place of a list

-- N spells something that is alike up to a newer token
abbrev Kept : {A : Type 0} → (List Token → A → Type 0) → List Token → Type 0
Kept {A} N T = (U : List Token) × (x : A) × N U x × Keeps T U

itself : {A : Type 0} (N : List Token → A → Type 0) (T : List Token) (x : A) → N T x → Kept N T
itself N T x h = (T, x, h, keeps_all T)

zero_for : (c : Token) (T : List Token) → (IsOldest c → ⊥) → Kept SpellsFirstAtom (c ∷ T)
zero_for c T n = (Number 0 ∷ [], number 0, small.a_number, newer n)

-- a seat's own word, or none of the oldest tokens
keeps_seat : {E : Bound} {T : List Token} {q : ASeat} → SpellsSeat E T q → {R S : List Token} → Keeps R S → Keeps (T ++ R) (Seat q ∷ S)
keeps_seat by_word k = same k
keeps_seat (by_bound w e) k = newer (λ i. i)
keeps_seat (beside w h) k = newer (λ i. i)

keep_count :
    {E : Bound} {c : Token} {R : List Token} {f : ASeat → Count} → SpellsCount E c R f → {T : List Token} {q : ASeat} → SpellsSeat E T q
    → Kept SpellsFirstAtom (c ∷ Open ∷ T ++ R)
keep_count (measure {m = Hcp}) {q} h = (
  Measure Hcp ∷ Open ∷ Seat q ∷ Close ∷ [],
  counted (points q),
  small.hcp,
  same (same (keeps_seat h (keeps_all _))),
)
keep_count (measure {m}) h = zero_for (Measure m) _ (λ i. i)
keep_count (measure_in {m = Hcp} (by_suit {s})) {q} h =
    (Measure Hcp ∷ Open ∷ Seat q ∷ Comma ∷ Suit s ∷ Close ∷ [], counted (suit_points q s), small.hcp_in, same (same (keeps_seat h (keeps_all _))))
keep_count (measure_in {m = Hcp} (by_class e)) {q} h = (
  Measure Hcp ∷ Open ∷ Seat q ∷ Comma ∷ Suit Spades ∷ Close ∷ [],
  counted (suit_points q Spades),
  small.hcp_in,
  same (same (keeps_seat h (same (newer (λ i. i))))),
)
keep_count (measure_in {m} i) h = zero_for (Measure m) _ (λ i. i)
keep_count (len (by_suit {s})) {q} h =
    (Len ∷ Open ∷ Seat q ∷ Comma ∷ Suit s ∷ Close ∷ [], counted (suit_length q s), small.len, same (same (keeps_seat h (keeps_all _))))
keep_count (len (by_class e)) {q} h = (
  Len ∷ Open ∷ Seat q ∷ Comma ∷ Suit Spades ∷ Close ∷ [],
  counted (suit_length q Spades),
  small.len,
  same (same (keeps_seat h (same (newer (λ i. i))))),
)
keep_count cards h = zero_for Cards _ (λ i. i)
keep_count (cards_in i) h = zero_for Cards _ (λ i. i)
keep_count (ordered_suit {o} w) h = zero_for (Ordered o) _ (λ i. i)

keep_atom : {E : Bound} {T : List Token} {a : Amount} → SpellsAtom [] E T a → Kept SpellsFirstAtom T
keep_atom {T} a_number = itself SpellsFirstAtom T _ small.a_number
keep_atom (a_count (count k h)) = keep_count k h
keep_atom (named_value i h) = absurd (cc)
keep_atom (multiple {n} w h) = (Number n ∷ [], number n, small.a_number, same (newer (λ i. i)))

keep_value : {E : Bound} {T : List Token} {a : Amount} → SpellsValue [] E T a → Kept SpellsFirstAtom T
keep_value (atom h) = keep_atom h
keep_value (plus {L} {R} l r) = let k = keep_value l in (k.0, k.1, k.2, keeps_before Plus R (λ i. i) k.3)

-- the length that an item asks for, or 0
length_of : Item → ℕ
length_of (Length n) = n
length_of Any = 0

keeps_item : (i : Item) {T U : List Token} → Keeps T U → Keeps (item_token i ∷ T) (Number (length_of i) ∷ U)
unfolding length_of
keeps_item (Length n) h = same h
keeps_item Any h = newer (λ i. i)

keeps_four :
    {E : Bound} {T : List Token} {q : ASeat} → SpellsSeat E T q → (a b c d : Item)
    → Keeps (Open ∷ T ++ four a b c d) (four_numbers q (length_of a) (length_of b) (length_of c) (length_of d))
keeps_four h a b c d =
    same (keeps_seat h (same (keeps_item a (same (keeps_item b (same (keeps_item c (same (keeps_item d (keeps_all (Close ∷ [])))))))))))

-- in place of a list that begins with a newer token
zero_equals : List Token
zero_equals = Number 0 ∷ Relation Equal ∷ Number 0 ∷ []

zero_test : FirstTestOf SpellsFirstAtom zero_equals (compare (number 0) Equal (number 0))
unfolding zero_equals
zero_test = small.comparison {L = Number 0 ∷ []} {R = Number 0 ∷ []} small.a_number small.a_number

keep_test : {E : Bound} {T : List Token} {t : Form} → SpellsTest [] E T t → Kept (FirstTestOf SpellsFirstAtom) T
keep_test (comparison {L} {R} {a} {b} {o} l r) =
    let k = keep_value l in
    let j = keep_value r in
    (k.0 ++ Relation o ∷ j.0, compare k.1 o j.1, small.comparison k.2 j.2, keeps_both k.3 (same j.3))
keep_test (in_range l) =
    let k = keep_value l in
    (k.0 ++ Relation Equal ∷ Number 0 ∷ [], compare k.1 Equal (number 0), small.comparison k.2 small.a_number, keeps_both k.3 (newer (λ i. i)))
keep_test (named_condition i h) = absurd (cc)
keep_test (of_hand {q} is_balanced h) =
    (Balanced ∷ Open ∷ Seat q ∷ Close ∷ [], _, small.is_balanced, same (same (keeps_seat h (keeps_all _))))
keep_test (of_hand {q} (has_shape a b c d) h) =
    (Shape ∷ four_numbers q (length_of a) (length_of b) (length_of c) (length_of d), _, small.has_shape, same (keeps_four h a b c d))
keep_test (of_hand {q} (has_pattern a b c d) h) =
    (Pattern ∷ four_numbers q (length_of a) (length_of b) (length_of c) (length_of d), _, small.has_pattern, same (keeps_four h a b c d))
keep_test (of_hand (has_stopper w i) h) = (zero_equals, compare (number 0) Equal (number 0), zero_test, newer (λ i. i))

-- the first tests, whichever classes are bound
abbrev FirstTests : FormsAt
FirstTests E = FirstTestOf SpellsFirstAtom

mutual
  keep_cond : {E : Bound} {T : List Token} {t : Form} → SpellsCond [] E T t → Kept SpellsInFirstGrammar T
  keep_cond (both h) = let k = keep_both h in (k.0, k.1, both k.2, k.3)
  keep_cond (or l r) =
      let k = keep_cond l in
      let j = keep_both r in
      (k.0 ++ Or ∷ j.0, any_of k.1 j.1, or k.2 j.2, keeps_both k.3 (same j.3))

  keep_both : {E : Bound} {T : List Token} {t : Form} → SpellsBoth [] E T t → Kept (BothOf no_additions FirstTests unbound) T
  keep_both (unit h) = let k = keep_unit h in (k.0, k.1, unit k.2, k.3)
  keep_both (and l r) =
      let k = keep_both l in
      let j = keep_unit r in
      (k.0 ++ And ∷ j.0, all_of k.1 j.1, and k.2 j.2, keeps_both k.3 (same j.3))

  keep_unit : {E : Bound} {T : List Token} {t : Form} → SpellsUnit [] E T t → Kept (UnitOf no_additions FirstTests unbound) T
  keep_unit (not h) = let k = keep_unit h in (Not ∷ k.0, negation k.1, not k.2, same k.3)
  keep_unit (brackets h) =
      let k = keep_cond h in
      (Open ∷ k.0 ++ Close ∷ [], k.1, brackets k.2, same (keeps_both k.3 (keeps_all (Close ∷ []))))
  keep_unit (quantified w b each) = (zero_equals, compare (number 0) Equal (number 0), test zero_test, newer (λ i. i))
  keep_unit (test h) = let k = keep_test h in (k.0, k.1, test k.2, k.3)

-- ---- viable lists

-- no list of the oldest tokens gives a name
no_let : (T : List Token) → ((c : Token) → Contains T c → IsOldest c) → Contains T Let → ⊥
no_let T old h = old Let h

to_first : (T : List Token) → ((c : Token) → Contains T c → IsOldest c) → IsViableIn SpellsNameless T → IsViableFirst T
to_first T old v =
    let k = keep_cond v.2 in
    let r = rest_of T v.0 old k.3 in
    (r.0, k.1, subst (λ U. SpellsInFirstGrammar U k.1) r.1 k.2)

from_first : (T : List Token) → IsViableFirst T → IsViable T
from_first T v = (v.0, v.1, nameless_text (spelled_again v.2))

pub viable_in_first_grammar : (T : List Token) → ((c : Token) → Contains T c → IsOldest c) → IsViable T ↔ IsViableFirst T
viable_in_first_grammar T old = (λ v. to_first T old ((viable_without_names T (no_let T old)).0 v), from_first T)

-- ---- first faults

old_part : (n : ℕ) (T : List Token) → ((c : Token) → Contains T c → IsOldest c) → (c : Token) → Contains (take n T) c → IsOldest c
old_part n T old c i = old c (subst (λ L. Contains L c) (take-append-drop n T) (Contains-append_left (take n T) (drop n T) c i))

fault_in :
    (S W : Forms) (T : List Token) (n : ℕ)
    → ((k : ℕ) → IsViableIn S (take k T) ↔ IsViableIn W (take k T)) → ((t : Form) → W T t → S T t)
    → IsFirstFaultIn S T n → IsFirstFaultIn W T n
fault_in S W T n viable spells f = record {
  within = f.within;
  before = (viable n).0 f.before;
  with_it = λ lt v. f.with_it lt ((viable (n + 1)).1 v);
  at_end = λ e t h. f.at_end e t (spells t h);
}

pub same_faults_in_first_grammar : (T : List Token) (n : ℕ) → ((c : Token) → Contains T c → IsOldest c)
    → IsFirstFault T n ↔ IsFirstFaultIn SpellsInFirstGrammar T n
same_faults_in_first_grammar T n old = (
  fault_in Spells SpellsInFirstGrammar T n (λ k. viable_in_first_grammar (take k T) (old_part k T old)) (λ t h. nameless_text (spelled_again h)),
  fault_in SpellsInFirstGrammar Spells T n
      (λ k. let v = viable_in_first_grammar (take k T) (old_part k T old) in (v.1, v.0))
      (λ t h. (same_in_first_grammar T t old).0 ((same_without_names T t (no_let T old)).0 h)),
)
