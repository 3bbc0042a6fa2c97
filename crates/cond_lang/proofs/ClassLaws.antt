-- What a quantifier spells, and what it means.
use Rattle.std.proofs.Common.{◌≡◌, ◌≢◌, Bool, true, false, not, ◌&&◌, ◌||◌, List, [], ◌∷◌, ◌++◌, map, Some, refl, sym, ap, ◌∙◌, subst, append_assoc}
use Rattle.std.specs.Prelude.{◌↔◌, fold}
use Rattle.std.specs.List.{list_any, list_all}
use Rattle.std.proofs.lemmas.List.{append_cancel_right}
use Rattle.cards.specs.declared.seat.Seat.{Seat as ASeat}
use Rattle.cards.specs.declared.seat.Seat.TheVariants.{North, East, South}
use Rattle.cards.specs.declared.suit.Suit.TheVariants.{Spades, Hearts, Diamonds}
use Rattle.cond_lang.specs.declared.classes.Bound.{Bound}
use Rattle.cond_lang.specs.declared.classes.Choice.{Choice}
use Rattle.cond_lang.specs.declared.classes.Class.{Class as AClass}
use Rattle.cond_lang.specs.declared.classes.Class.TheVariants.{Major, NorthSouth}
use Rattle.cond_lang.specs.declared.classes.Neighbour.TheVariants.{Partner}
use Rattle.cond_lang.specs.declared.classes.Quantifier.{Quantifier as AQuantifier}
use Rattle.cond_lang.specs.declared.classes.Quantifier.TheVariants.{Any, Every}
use Rattle.cond_lang.specs.declared.scanner.Token.{Token}
use Rattle.cond_lang.specs.declared.scanner.Token.TheVariants.{Not, Quantifier, Class, Open, Close, Plus, Relation, In, Number, Dash}
use Rattle.conditions.specs.declared.tree.Count.{Count}
use Rattle.conditions.specs.Form.{Amount, Form, any_of, all_of, negation}
use Rattle.conditions.specs.Meaning.{holds}
use Rattle.cond_lang.specs.Classes.{bind, can_bind, choice, members, seat_beside}
use Rattle.cond_lang.specs.Grammar.{Meanings, named_value, named_condition, a_count, multiple, SpellsCount}
use Rattle.cond_lang.specs.Grammar.{SpellsAtom, SpellsValue, atom, plus, a_number, count, measure}
use Rattle.cond_lang.specs.Grammar.{SpellsCond, both, unit}
use Rattle.cond_lang.specs.Grammar.{SpellsUnit, not as negated, brackets, quantified, test, SpellsEach, none}
use Rattle.cond_lang.specs.Grammar.{one_more, joined, SpellsTest, comparison, in_range, of_hand, is_balanced}
use Rattle.cond_lang.specs.Grammar.{has_shape, has_pattern, has_stopper}
use Rattle.cond_lang.specs.internal.Reading.{front}
use Rattle.cond_lang.proofs.Quantified.{AreEach}

-- ---- what it spells

-- a value doesn't begin with a quantifier
count_front : {E : Bound} {c : Token} {R : List Token} {f : ASeat → Count} → SpellsCount E c R f → (k : AQuantifier) → Some c ≢ Some (Quantifier k)
count_front measure k = λ e. cc
count_front h k = λ e. cc

atom_front : {N : Meanings} {E : Bound} {L : List Token} {a : Amount} → SpellsAtom N E L a
    → (X : List Token) (k : AQuantifier) → front (L ++ X) ≢ Some (Quantifier k)
atom_front a_number X k = λ e. cc
atom_front (a_count (count h s)) X k = count_front h k
atom_front (multiple w h) X k = λ e. cc
atom_front (named_value i h) X k = λ e. cc

value_front : {N : Meanings} {E : Bound} {L : List Token} {a : Amount} → SpellsValue N E L a
    → (X : List Token) (k : AQuantifier) → front (L ++ X) ≢ Some (Quantifier k)
value_front (atom h) X k = atom_front h X k
value_front (plus {L} {R} l r) X k = rw (append_assoc L (Plus ∷ R) X) (value_front l (Plus ∷ (R ++ X)) k)

test_front : {N : Meanings} {E : Bound} {T : List Token} {t : Form} → SpellsTest N E T t → (k : AQuantifier) → front T ≢ Some (Quantifier k)
test_front (comparison {L} {R} {o} l r) k = value_front l (Relation o ∷ R) k
test_front (in_range {L} {m} {n} l) k = value_front l (In ∷ Number m ∷ Dash ∷ Number n ∷ []) k
test_front (named_condition i h) k = λ e. cc
test_front (of_hand is_balanced s) k = λ e. cc
test_front (of_hand (has_shape a b c d) s) k = λ e. cc
test_front (of_hand (has_pattern a b c d) s) k = λ e. cc
test_front (of_hand (has_stopper w i) s) k = λ e. cc

-- a class can be bound there, and the tokens spell a tree with each of its suits
abbrev pub IsQuantified : Meanings → Bound → AQuantifier → AClass → List Token → Form → Type 0
IsQuantified N E k c T t = (can_bind E c ≡ true) × AreEach N E k c T t

same_each :
    (N : Meanings) (E : Bound) (j k : AQuantifier) (c d : AClass) (S T : List Token) (t : Form)
    → j ≡ k → c ≡ d → S ≡ T → IsQuantified N E j c S t → IsQuantified N E k d T t
same_each N E j k c d S T t a b e h =
    subst (λ T. IsQuantified N E k d T t) e (subst (λ d. IsQuantified N E k d S t) b (subst (λ k. IsQuantified N E k c S t) a h))

quantifies :
    {N : Meanings} {E : Bound} {A : List Token} {t : Form} → SpellsUnit N E A t → (k : AQuantifier) (c : AClass) (T : List Token)
    → A ≡ Quantifier k ∷ Class c ∷ Open ∷ T ++ Close ∷ [] → IsQuantified N E k c T t
quantifies (negated h) k c T e = absurd (cc)
quantifies (brackets h) k c T e = absurd (cc)
quantifies {N} {E} (quantified {k = j} {c = d} {T = S} {t} {ts} w b each) k c T e =
    let i : j ≡ k = cc in
    let l : d ≡ c = cc in
    let m : S ++ Close ∷ [] ≡ T ++ Close ∷ [] = cc in
    same_each N E j k d c S T _ i l (append_cancel_right S T (Close ∷ []) m) (b, (t, ts, each, refl))
quantifies (test h) k c T e = absurd (test_front h k (ap front e))

pub quantified_is :
    (N : Meanings) (E : Bound) (k : AQuantifier) (c : AClass) (T : List Token) (t : Form)
    → SpellsUnit N E (Quantifier k ∷ Class c ∷ Open ∷ T ++ Close ∷ []) t
    → IsQuantified N E k c T t
quantified_is N E k c T t h = quantifies h k c T refl

-- `any` of a class with two members is c with one or c with the other
abbrev pub WithOneOf : AClass → Choice → Choice → Meanings → Bound → List Token → Form → Type 0
WithOneOf c x y N E T t =
    (can_bind E c ≡ true)
    × ((a : Form) × (b : Form) × SpellsCond N (bind E c x) T a × SpellsCond N (bind E c y) T b × (t ≡ any_of a b))

two_each : (N : Meanings) (E : Bound) (c : AClass) (x y : Choice) (T : List Token) (t u : Form) (us : List Form)
    → SpellsEach N E c (x ∷ y ∷ []) T (u ∷ us) → t ≡ fold (joined Any) u us
    → (a : Form) × (b : Form) × SpellsCond N (bind E c x) T a × SpellsCond N (bind E c y) T b × (t ≡ any_of a b)
two_each N E c x y T t u us (one_more {t = a} h (one_more {t = b} g none)) e = (a, b, h, g, e)

any_of_two :
    (c : AClass) (x y : Choice) (N : Meanings) (E : Bound) → members E c ≡ x ∷ y ∷ [] → (T : List Token) (t : Form)
    → SpellsUnit N E (Quantifier Any ∷ Class c ∷ Open ∷ T ++ Close ∷ []) t ↔ WithOneOf c x y N E T t
any_of_two c x y N E e T t = (
  λ h. let q = quantified_is N E Any c T t h in
      (q.0, two_each N E c x y T t q.1.0 q.1.1 (subst (λ ss. SpellsEach N E c ss T (q.1.0 ∷ q.1.1)) e q.1.2) q.1.3),
  λ m. subst (λ t. SpellsUnit N E (Quantifier Any ∷ Class c ∷ Open ∷ T ++ Close ∷ []) t) (sym m.1.4)
      (quantified tt m.0 (subst (λ ss. SpellsEach N E c ss T (m.1.0 ∷ m.1.1 ∷ [])) (sym e) (one_more m.1.2 (one_more m.1.3 none)))),
)

pub majors :
    (N : Meanings) (E : Bound) (T : List Token) (t : Form)
    → SpellsUnit N E (Quantifier Any ∷ Class Major ∷ Open ∷ T ++ Close ∷ []) t ↔ WithOneOf Major (choice Spades North) (choice Hearts East) N E T t
majors N E T t = any_of_two Major (choice Spades North) (choice Hearts East) N E refl T t

pub north_or_south :
    (N : Meanings) (E : Bound) (T : List Token) (t : Form)
    → SpellsUnit N E (Quantifier Any ∷ Class NorthSouth ∷ Open ∷ T ++ Close ∷ []) t ↔ WithOneOf NorthSouth
    (choice Spades North) (choice Diamonds South) N E T t
north_or_south N E T t = any_of_two NorthSouth (choice Spades North) (choice Diamonds South) N E refl T t

-- the partner of a seat's partner is the seat
pub across_twice : (q : ASeat) → seat_beside Partner (seat_beside Partner q) ≡ q
across_twice North = refl
across_twice x = refl

-- ---- what it means

or_false : (a : Bool) → a ≡ (a || false)
or_false true = refl
or_false false = refl

and_true : (a : Bool) → a ≡ (a && true)
and_true true = refl
and_true false = refl

or_assoc : (a b c : Bool) → ((a || b) || c) ≡ (a || (b || c))
or_assoc true b c = refl
or_assoc false b c = refl

and_assoc : (a b c : Bool) → ((a && b) && c) ≡ (a && (b && c))
and_assoc true b c = refl
and_assoc false b c = refl

pub any_is_some : (t : Form) (ts : List Form) (deal : List ASeat) → holds (fold (joined Any) t ts) deal ≡ list_any (λ t. holds t deal) (t ∷ ts)
any_is_some t [] deal = or_false (holds t deal)
any_is_some t (u ∷ us) deal =
    any_is_some (any_of t u) us deal ∙ or_assoc (holds t deal) (holds u deal) (list_any (λ t. holds t deal) us)

pub every_is_all : (t : Form) (ts : List Form) (deal : List ASeat) → holds (fold (joined Every) t ts) deal ≡ list_all (λ t. holds t deal) (t ∷ ts)
every_is_all t [] deal = and_true (holds t deal)
every_is_all t (u ∷ us) deal =
    every_is_all (all_of t u) us deal ∙ and_assoc (holds t deal) (holds u deal) (list_all (λ t. holds t deal) us)

not_both : (a b c : Bool) → c ≡ not a → (c || not b) ≡ not (a && b)
not_both true b c e = rw e refl
not_both false b c e = rw e refl

not_not : (a : Bool) → a ≡ not (not a)
not_not true = refl
not_not false = refl

-- none of them fails exactly if all hold
none_fails :
    (t u : Form) (ts : List Form) (deal : List ASeat) → holds u deal ≡ not (holds t deal)
    → holds (fold (joined Every) t ts) deal ≡ not (holds (fold (joined Any) u (map negation ts)) deal)
none_fails t u [] deal e = not_not (holds t deal) ∙ ap not (sym e)
none_fails t u (x ∷ xs) deal e = none_fails (all_of t x) (any_of u (negation x)) xs deal (not_both (holds t deal) (holds x deal) (holds u deal) e)

negated_each :
    {N : Meanings} {E : Bound} {c : AClass} {ss : List Choice} {T : List Token} {ts : List Form} → SpellsEach N E c ss T ts
    → SpellsEach N E c ss (Not ∷ Open ∷ T ++ Close ∷ []) (map negation ts)
negated_each none = none
negated_each (one_more h hs) = one_more (both (unit (negated (brackets h)))) (negated_each hs)

-- `every class (c)` is `not any class (not (c))`
abbrev pub IsNotAnyNot : Meanings → Bound → AClass → List Token → Form → Type 0
IsNotAnyNot N E c T t =
    (u : Form)
    × SpellsUnit N E (Not ∷ Quantifier Any ∷ Class c ∷ Open ∷ (Not ∷ Open ∷ T ++ Close ∷ []) ++ Close ∷ []) u
    × ((deal : List ASeat) → holds t deal ≡ holds u deal)

pub every_is_not_any_not :
    (N : Meanings) (E : Bound) (c : AClass) (T : List Token) (t : Form) → SpellsUnit N E (Quantifier Every ∷ Class c ∷ Open ∷ T ++ Close ∷ []) t
    → IsNotAnyNot N E c T t
every_is_not_any_not N E c T t h =
    let q = quantified_is N E Every c T t h in
    let first : Form = q.1.0 in
    let more : List Form = q.1.1 in (
      negation (fold (joined Any) (negation first) (map negation more)),
      negated (quantified tt q.0 (negated_each q.1.2)),
      λ deal. ap (λ t. holds t deal) q.1.3 ∙ none_fails first (negation first) more deal refl,
    )

pub ruleset each_suit = (any_is_some, every_is_all)
