-- A list without certain tokens spells the same trees in the whole grammar and in a smaller one.
use Rattle.std.proofs.Common.{◌≡◌, ◌≢◌, suc, List, [], ◌∷◌, ◌++◌, Some, refl, sym, subst, arith}
use Rattle.std.specs.Prelude.{Contains, ◌↔◌}
use Rattle.std.proofs.lemmas.List.Elements.{Contains-append_left, Contains-append_right}
use Rattle.cards.specs.declared.hand.Measure.{Measure as AMeasure}
use Rattle.cards.specs.declared.hand.Measure.TheVariants.{Hcp}
use Rattle.cards.specs.declared.order.Order.{Order as AnOrder}
use Rattle.cards.specs.declared.order.Order.TheVariants.{Second}
use Rattle.cond_lang.specs.declared.classes.Bound.{Bound}
use Rattle.cond_lang.specs.declared.classes.Choice.{Choice}
use Rattle.cond_lang.specs.declared.classes.Class.{Class as AClass}
use Rattle.cond_lang.specs.declared.classes.Class.TheVariants.{Seat as AnySeat, NorthSouth, EastWest}
use Rattle.cond_lang.specs.declared.scanner.Token.{Token}
use Rattle.cond_lang.specs.declared.scanner.Token.TheVariants.{Or, And, Not, Shape, Pattern, Quantifier, Stops}
use Rattle.cond_lang.specs.declared.scanner.Token.TheVariants.{Measure, Cards, Ordered, In, X, Seat}
use Rattle.cond_lang.specs.declared.scanner.Token.TheVariants.{Class, Neighbour, Number, Dash, Open, Close, Plus}
use Rattle.cond_lang.specs.declared.scanner.Token.TheVariants.{Star, Relation}
use Rattle.cards.specs.declared.seat.Seat.{Seat as ASeat}
use Rattle.conditions.specs.declared.tree.Count.{Count}
use Rattle.conditions.specs.declared.tree.Item.{Item}
use Rattle.conditions.specs.declared.tree.Item.TheVariants.{Length, Any}
use Rattle.conditions.specs.Form.{Amount, counted, Form, shaped, patterned}
use Rattle.cond_lang.specs.Classes.{by_suit, by_class}
use Rattle.cond_lang.specs.Definitions.{SpellsNameless}
use Rattle.cond_lang.specs.Grammar.{named_value, named_condition, Addition, quantifiers, seats, factors, CountedOf}
use Rattle.cond_lang.specs.Grammar.{SpellsCounted, a_count, multiple, addition_of, everything, SeatOf, SpellsSeat}
use Rattle.cond_lang.specs.Grammar.{by_word, by_bound, beside, CountOf, SpellsCount, HandTestOf, SpellsHandTest}
use Rattle.cond_lang.specs.Grammar.{Amounts, FormsAt, AtomOf, SpellsAtom, a_number, count, measure, measure_in, len}
use Rattle.cond_lang.specs.Grammar.{cards, cards_in, ordered_suit, HasOrder, ValueOf, atom, plus}
use Rattle.cond_lang.specs.Grammar.{four, CondOf, both, or, BothOf, unit, and, UnitOf, not, brackets, quantified}
use Rattle.cond_lang.specs.Grammar.{test, EachOf, none, one_more, TestOf, SpellsTest, comparison, in_range, of_hand}
use Rattle.cond_lang.specs.Grammar.{is_balanced, has_shape, has_pattern, has_stopper, SpellsValue}
use Rattle.cond_lang.specs.SmallerGrammars as small
use Rattle.cond_lang.specs.SmallerGrammars.{SpellsWith, brought_by, no_factors, SpellsWithoutFactors, HcpCounted}
use Rattle.cond_lang.specs.SmallerGrammars.{no_seats, SpellsWithoutSeats, IsBeforeSeats, no_additions, SpellsEarlier}
use Rattle.cond_lang.specs.SmallerGrammars.{IsEarlier, HcpCount, SpellsWithoutSums, SpellsHcpAtom, SpellsWithHcpAlone}
use Rattle.cond_lang.specs.SmallerGrammars.{SpellsFirstAtom, FirstTestOf, SpellsInFirstWords, IsFirst}
use Rattle.cond_lang.specs.SmallerGrammars.{SpellsInFirstGrammar, IsOldest}

-- the list has no token of this kind
abbrev HasNone : (Token → Type 0) → List Token → Type 0
HasNone B T = (c : Token) → B c → Contains T c → ⊥

pub after_first : (c x : Token) (T : List Token) → Contains T x → Contains (c ∷ T) x
after_first c x T h = (suc h.0, omega (arith, h.1), h.2)

left_of : (B : Token → Type 0) (L : List Token) (c : Token) (R : List Token) → HasNone B (L ++ c ∷ R) → HasNone B L
left_of B L c R n = λ x b h. n x b (Contains-append_left L (c ∷ R) x h)

right_of : (B : Token → Type 0) (L : List Token) (c : Token) (R : List Token) → HasNone B (L ++ c ∷ R) → HasNone B R
right_of B L c R n = λ x b h. n x b (Contains-append_right L (c ∷ R) x (after_first c x R h))

-- from values that V spells to values that W spells
abbrev Turns : (Token → Type 0) → Amounts → Amounts → Type 0
Turns B V W = (T : List Token) (a : Amount) → V T a → HasNone B T → W T a

-- and from tests to tests
abbrev TurnsTests : (Token → Type 0) → FormsAt → FormsAt → Type 0
TurnsTests B U W = (E : Bound) (T : List Token) (t : Form) → U E T t → HasNone B T → W E T t

-- which additions a grammar has
abbrev Words : Type 1
Words = Addition → Type 0

-- where a word that came later may stand, a grammar that has its addition leads to another such
abbrev TurnsWords : (Token → Type 0) → Words → Words → Type 0
TurnsWords B P Q = (c : Token) (a : Addition) → brought_by c ≡ Some a → (B c → ⊥) → P a → Q a

keeps_words : (B : Token → Type 0) (P : Words) → TurnsWords B P P
keeps_words B P c a e b w = w

-- the list's first token
none_first : (B : Token → Type 0) (c : Token) (T : List Token) → HasNone B (c ∷ T) → B c → ⊥
none_first B c T n b = n c b (0, omega arith, refl)

turn_value : (B : Token → Type 0) (V W : Amounts) → Turns B V W → Turns B (ValueOf V) (ValueOf W)
turn_value B V W f T a (atom h) n = atom (f T a h n)
turn_value B V W f T a (plus {L} {R} {a = x} {b = y} l r) n =
    plus (turn_value B V W f L x l (left_of B L Plus R n)) (f R y r (right_of B L Plus R n))

turn_seat : (B : Token → Type 0) (P Q : Words) → TurnsWords B P Q → {E : Bound} {T : List Token} {q : ASeat}
    → SeatOf P E T q → HasNone B T → SeatOf Q E T q
turn_seat B P Q w by_word n = by_word
turn_seat B P Q w (by_bound {c = AnySeat} p e) n = by_bound (w (Class AnySeat) seats refl (none_first B (Class AnySeat) [] n) p) e
turn_seat B P Q w (by_bound {c = NorthSouth} p e) n = by_bound (w (Class NorthSouth) seats refl (none_first B (Class NorthSouth) [] n) p) e
turn_seat B P Q w (by_bound {c = EastWest} p e) n = by_bound (w (Class EastWest) seats refl (none_first B (Class EastWest) [] n) p) e
turn_seat B P Q w (by_bound {c} p e) n = absurd (cc)
turn_seat B P Q w (beside {n = k} {Q = T} p h) n =
    beside (w (Neighbour k) seats refl (none_first B (Neighbour k) (Open ∷ T ++ Close ∷ []) n) p)
    (turn_seat B P Q w h (left_of B T Close [] (right_of B (Neighbour k ∷ []) Open (T ++ Close ∷ []) n)))

-- the seat after a word and a bracket
seat_of : (B : Token → Type 0) (P Q : Words) → TurnsWords B P Q
    → {E : Bound} (c : Token) (T R : List Token) (q : ASeat) → SeatOf P E T q → HasNone B (c ∷ Open ∷ T ++ R)
    → SeatOf Q E T q
seat_of B P Q w c T R q h n = turn_seat B P Q w h (λ x b i. n x b
    (after_first c x (Open ∷ T ++ R) (after_first Open x (T ++ R) (Contains-append_left T R x i))))

turn_hand :
    (B : Token → Type 0) (P Q : Words) → TurnsWords B P Q → {E : Bound} {c : Token} {R : List Token} {f : ASeat → Form}
    → HandTestOf P E c R f → (B c → ⊥) → HandTestOf Q E c R f
turn_hand B P Q w is_balanced n = is_balanced
turn_hand B P Q w (has_shape a b c d) n = has_shape a b c d
turn_hand B P Q w (has_pattern a b c d) n = has_pattern a b c d
turn_hand B P Q w (has_stopper p i) n = has_stopper (w Stops quantifiers refl n p) i

turn_test :
    (B : Token → Type 0) (P Q : Words) → TurnsWords B P Q → (E : Bound) (V W : Amounts) → Turns B V W
    → (T : List Token) (t : Form) → TestOf P [] E V T t → HasNone B T → TestOf Q [] E W T t
turn_test B P Q w E V W f T t (comparison {L} {R} {a} {b} {o} l r) n =
    comparison (f L a l (left_of B L (Relation o) R n)) (f R b r (right_of B L (Relation o) R n))
turn_test B P Q w E V W f T t (named_condition i h) n = absurd (cc)
turn_test B P Q w E V W f T t (in_range {L} {a} {m} {n = k} l) n = in_range (f L a l (left_of B L In (Number m ∷ Dash ∷ Number k ∷ []) n))
turn_test B P Q w E V W f T t (of_hand {c} {Q = S} {R} {q} k h) n =
    of_hand (turn_hand B P Q w k (none_first B c (Open ∷ S ++ R) n)) (seat_of B P Q w c S R q h n)

module _ (B : Token → Type 0) (P Q : Words) (w : TurnsWords B P Q) (U W : FormsAt) (f : TurnsTests B U W) where
  mutual
    turn_cond : {E : Bound} {T : List Token} {t : Form} → CondOf P U E T t → HasNone B T → CondOf Q W E T t
    turn_cond (both h) n = both (turn_both h n)
    turn_cond (or {L} {R} l r) n = or (turn_cond l (left_of B L Or R n)) (turn_both r (right_of B L Or R n))

    turn_both : {E : Bound} {T : List Token} {t : Form} → BothOf P U E T t → HasNone B T → BothOf Q W E T t
    turn_both (unit h) n = unit (turn_unit h n)
    turn_both (and {L} {R} l r) n = and (turn_both l (left_of B L And R n)) (turn_unit r (right_of B L And R n))

    turn_unit : {E : Bound} {T : List Token} {t : Form} → UnitOf P U E T t → HasNone B T → UnitOf Q W E T t
    turn_unit (not {T} h) n = not (turn_unit h (right_of B [] Not T n))
    turn_unit (brackets {T} h) n = brackets (turn_cond h (left_of B T Close [] (right_of B [] Open (T ++ Close ∷ []) n)))
    turn_unit (quantified {k} {c} {T} p b each) n =
        quantified (w (Class c) (addition_of c) refl (λ x. n (Class c) x (1, omega arith, refl)) p) b
        (turn_each each (left_of B T Close [] (right_of B (Quantifier k ∷ Class c ∷ []) Open (T ++ Close ∷ []) n)))
    turn_unit (test {E} {T} {t} h) n = test (f E T t h n)

    turn_each : {E : Bound} {c : AClass} {ss : List Choice} {T : List Token} {ts : List Form} → EachOf P U E c ss T ts
        → HasNone B T → EachOf Q W E c ss T ts
    turn_each none n = none
    turn_each (one_more h hs) n = one_more (turn_cond h n) (turn_each hs n)

-- no token at all
abbrev IsNone : Token → Type 0
IsNone c = ⊥

turn_order :
    (B : Token → Type 0) (P Q : Words) → TurnsWords B P Q → (o : AnOrder) → HasOrder P o → (B (Ordered o) → ⊥) → HasOrder Q o
turn_order B P Q w Second p n = w (Ordered Second) quantifiers refl n p
turn_order B P Q w o p n = tt

turn_count :
    (B : Token → Type 0) (P Q : Words) → TurnsWords B P Q → {E : Bound} {c : Token} {R : List Token} {f : ASeat → Count}
    → CountOf P E c R f → (B c → ⊥) → CountOf Q E c R f
turn_count B P Q w measure n = measure
turn_count B P Q w (measure_in i) n = measure_in i
turn_count B P Q w (len i) n = len i
turn_count B P Q w cards n = cards
turn_count B P Q w (cards_in i) n = cards_in i
turn_count B P Q w (ordered_suit {o} p) n = ordered_suit (turn_order B P Q w o p n)

turn_counted :
    (B : Token → Type 0) (P Q : Words) → TurnsWords B P Q → {E : Bound} {T : List Token} {k : Count}
    → CountedOf P E T k → HasNone B T → CountedOf Q E T k
turn_counted B P Q w (count {c} {Q = S} {R} {q} k h) n =
    count (turn_count B P Q w k (none_first B c (Open ∷ S ++ R) n)) (seat_of B P Q w c S R q h n)

turn_atom : (B : Token → Type 0) (P Q : Words) → TurnsWords B P Q → (E : Bound) → Turns B (AtomOf P [] E) (AtomOf Q [] E)
turn_atom B P Q w E T a a_number n = a_number
turn_atom B P Q w E T a (a_count h) n = a_count (turn_counted B P Q w h n)
turn_atom B P Q w E T a (named_value i h) n = absurd (cc)
turn_atom B P Q w E T a (multiple {n = m} {T = S} p h) n =
    multiple (w Star factors refl (λ b. n Star b (1, omega arith, refl)) p) (turn_counted B P Q w h (right_of B (Number m ∷ []) Star S n))

-- the tests of the grammar with some additions
abbrev TestsWith : Words → FormsAt
TestsWith P E = TestOf P [] E (ValueOf (AtomOf P [] E))

turn_words : (B : Token → Type 0) (P Q : Words) → TurnsWords B P Q → TurnsTests B (TestsWith P) (TestsWith Q)
turn_words B P Q w E T t h n =
    turn_test B P Q w E (ValueOf (AtomOf P [] E)) (ValueOf (AtomOf Q [] E))
    (turn_value B (AtomOf P [] E) (AtomOf Q [] E) (turn_atom B P Q w E)) T t h n

-- from a grammar with some additions to one with others
turn_all : (B : Token → Type 0) (P Q : Words) → TurnsWords B P Q → {T : List Token} {t : Form} → SpellsWith P T t → HasNone B T → SpellsWith Q T t
turn_all B P Q w h n = turn_cond B P Q w (TestsWith P) (TestsWith Q) (turn_words B P Q w) h n

-- what a smaller grammar spells, the whole one spells too
to_all : (P : Words) {T : List Token} {t : Form} → SpellsWith P T t → SpellsNameless T t
to_all P h = turn_all IsNone P everything (λ c a e b w. tt) h (λ c b. absurd b)

-- ---- without factors
abbrev IsStar : Token → Type 0
IsStar c = c ≡ Star

brought_star : (c : Token) → brought_by c ≡ Some factors → IsStar c
brought_star Star e = refl
brought_star (Class AnySeat) e = absurd (cc)
brought_star (Ordered Second) e = absurd (cc)
brought_star c e = absurd (cc)

leaves_factors : TurnsWords IsStar everything no_factors
leaves_factors c quantifiers e b w = tt
leaves_factors c seats e b w = tt
leaves_factors c factors e b w = b (brought_star c e)

pub same_before_factors : (T : List Token) (t : Form) → (Contains T Star → ⊥) → SpellsNameless T t ↔ SpellsWithoutFactors T t
same_before_factors T t n = (
  λ h. turn_all IsStar everything no_factors leaves_factors h
      (λ c e i. n (subst (λ c. Contains T c) e i)),
  λ h. to_all no_factors h,
)

-- ---- without the words of seats too
abbrev IsOfSeats : Token → Type 0
IsOfSeats c = IsBeforeSeats c → ⊥

leaves_seats : TurnsWords IsOfSeats everything no_seats
leaves_seats c quantifiers e b w = tt
leaves_seats c seats e b w = b (λ n. n.0 e)
leaves_seats c factors e b w = b (λ n. n.1 e)

pub same_before_seats : (T : List Token) (t : Form) → ((c : Token) → Contains T c → IsBeforeSeats c) → SpellsNameless T t ↔ SpellsWithoutSeats T t
same_before_seats T t n = (λ h. turn_all IsOfSeats everything no_seats leaves_seats h (λ c b i. b (n c i)), λ h. to_all no_seats h)

-- ---- without those of quantifiers too
abbrev IsLast : Token → Type 0
IsLast c = IsEarlier c → ⊥

leaves_last : TurnsWords IsLast everything no_additions
leaves_last c a e b w = b (λ n. cc)

pub same_earlier : (T : List Token) (t : Form) → ((c : Token) → Contains T c → IsEarlier c) → SpellsNameless T t ↔ SpellsEarlier T t
same_earlier T t n = (λ h. turn_all IsLast everything no_additions leaves_last h (λ c b i. b (n c i)), λ h. to_all no_additions h)

-- ---- without sums
abbrev IsPlus : Token → Type 0
IsPlus c = c ≡ Plus

one_atom : (A : Amounts) → Turns IsPlus (ValueOf A) A
one_atom A T a (atom h) n = h
one_atom A T a (plus {L} {R} l r) n = absurd (n Plus refl (Contains-append_right L (Plus ∷ R) Plus (0, omega arith, refl)))

abbrev TestsWithoutSums : FormsAt
TestsWithoutSums E = TestOf everything [] E (SpellsAtom [] E)

pub same_without_sums : (T : List Token) (t : Form) → (Contains T Plus → ⊥) → SpellsNameless T t ↔ SpellsWithoutSums T t
same_without_sums T t n = (
  λ h. turn_cond IsPlus everything everything (keeps_words IsPlus everything) (SpellsTest []) TestsWithoutSums
      (λ E. turn_test IsPlus everything everything (keeps_words IsPlus everything) E (SpellsValue [] E)
      (SpellsAtom [] E) (one_atom (SpellsAtom [] E))) h (λ c e. rw e n),
  λ h. turn_cond IsNone everything everything (keeps_words IsNone everything) TestsWithoutSums (SpellsTest [])
      (λ E. turn_test IsNone everything everything (keeps_words IsNone everything) E (SpellsAtom [] E)
      (SpellsValue [] E) (λ T a v n. atom v)) h (λ c b. absurd b),
)

-- ---- with hcp alone
abbrev IsOtherMeasure : Token → Type 0
IsOtherMeasure c = (m : AMeasure) × (m ≢ Hcp) × (c ≡ Measure m)

hcp_count : {E : Bound} {c : Token} {R : List Token} {f : ASeat → Count} → SpellsCount E c R f → (IsOtherMeasure c → ⊥) → HcpCount E c R f
hcp_count (measure {m = Hcp}) n = small.hcp
hcp_count (measure {m}) n = absurd (n (m, (λ e. cc), refl))
hcp_count (measure_in {m = Hcp} i) n = small.hcp_in i
hcp_count (measure_in {m} i) n = absurd (n (m, (λ e. cc), refl))
hcp_count (len i) n = small.len i
hcp_count cards n = small.cards
hcp_count (cards_in i) n = small.cards_in i
hcp_count (ordered_suit w) n = small.ordered_suit

hcp_counted : {E : Bound} {T : List Token} {k : Count} → SpellsCounted E T k → HasNone IsOtherMeasure T → HcpCounted E T k
hcp_counted (count {c} {Q} {R} k h) n = small.count (hcp_count k (none_first IsOtherMeasure c (Open ∷ Q ++ R) n)) h

hcp_atom : (E : Bound) → Turns IsOtherMeasure (SpellsAtom [] E) (SpellsHcpAtom E)
hcp_atom E T a a_number n = small.a_number
hcp_atom E T a (a_count h) n = small.a_count (hcp_counted h n)
hcp_atom E T a (named_value i h) n = absurd (cc)
hcp_atom E T a (multiple {n = m} {T = S} w h) n = small.multiple (hcp_counted h (right_of IsOtherMeasure (Number m ∷ []) Star S n))

has_order : (o : AnOrder) → HasOrder everything o
has_order Second = tt
has_order o = tt

count_again : {E : Bound} {c : Token} {R : List Token} {f : ASeat → Count} → HcpCount E c R f → SpellsCount E c R f
count_again small.hcp = measure
count_again (small.hcp_in i) = measure_in i
count_again (small.len i) = len i
count_again small.cards = cards
count_again (small.cards_in i) = cards_in i
count_again (small.ordered_suit {o}) = ordered_suit (has_order o)

atom_again : (E : Bound) → Turns IsNone (SpellsHcpAtom E) (SpellsAtom [] E)
atom_again E T a small.a_number n = a_number
atom_again E T a (small.a_count (small.count k h)) n = a_count (count (count_again k) h)
atom_again E T a (small.multiple (small.count k h)) n = multiple tt (count (count_again k) h)

abbrev HcpTests : FormsAt
HcpTests E = TestOf everything [] E (ValueOf (SpellsHcpAtom E))

pub same_with_hcp_alone : (T : List Token) (t : Form) → ((m : AMeasure) → m ≢ Hcp → Contains T (Measure m) → ⊥)
    → SpellsNameless T t ↔ SpellsWithHcpAlone T t
same_with_hcp_alone T t n = (
  λ h. turn_cond IsOtherMeasure everything everything (keeps_words IsOtherMeasure everything) (SpellsTest []) HcpTests
      (λ E. turn_test IsOtherMeasure everything everything (keeps_words IsOtherMeasure everything) E
      (SpellsValue [] E) (ValueOf (SpellsHcpAtom E)) (turn_value IsOtherMeasure (SpellsAtom [] E)
      (SpellsHcpAtom E) (hcp_atom E))) h (λ c b. rw b.2 (n b.0 b.1)),
  λ h. turn_cond IsNone everything everything (keeps_words IsNone everything) HcpTests (SpellsTest [])
      (λ E. turn_test IsNone everything everything (keeps_words IsNone everything) E (ValueOf (SpellsHcpAtom E))
      (SpellsValue [] E) (turn_value IsNone (SpellsHcpAtom E) (SpellsAtom [] E) (atom_again E))) h
      (λ c b. absurd b),
)

-- ---- in the first words
abbrev IsLater : Token → Type 0
IsLater c = IsFirst c → ⊥

brought_later : (c : Token) (a : Addition) → brought_by c ≡ Some a → IsLater c
brought_later (Quantifier k) a e = λ h. h
brought_later Stops a e = λ h. h
brought_later (Ordered Second) a e = λ h. h
brought_later (Class c) a e = λ h. h
brought_later (Neighbour n) a e = λ h. h
brought_later Star a e = λ h. h
brought_later c a e = absurd (cc)

leaves_later : TurnsWords IsLater everything no_additions
leaves_later c a e b w = b (brought_later c a e)

-- a seat in the first words is one token
first_seat : {E : Bound} {T : List Token} {q : ASeat} → SpellsSeat E T q → (c : Token) (R : List Token)
    → HasNone IsLater (c ∷ Open ∷ T ++ R) → T ≡ Seat q ∷ []
first_seat by_word c R n = refl
first_seat (by_bound {c = d} w e) c R n = absurd (n (Class d) (λ h. h) (2, omega arith, refl))
first_seat (beside {n = k} w h) c R n = absurd (n (Neighbour k) (λ h. h) (2, omega arith, refl))

-- a word of a later count
first_count :
    {E : Bound} {c : Token} {R : List Token} {f : ASeat → Count} → SpellsCount E c R f → (q : ASeat) → HasNone IsLater (c ∷ Open ∷ Seat q ∷ R)
    → SpellsFirstAtom (c ∷ Open ∷ Seat q ∷ R) (counted (f q))
first_count (measure {m = Hcp}) q n = small.hcp
first_count (measure {m}) q n = absurd (n (Measure m) (λ h. h) (0, omega arith, refl))
first_count (measure_in {m = Hcp} by_suit) q n = small.hcp_in
first_count (measure_in {m = Hcp} (by_class {c} e)) q n = absurd (n (Class c) (λ h. h) (4, omega arith, refl))
first_count (measure_in {m} i) q n = absurd (n (Measure m) (λ h. h) (0, omega arith, refl))
first_count (len by_suit) q n = small.len
first_count (len (by_class {c} e)) q n = absurd (n (Class c) (λ h. h) (4, omega arith, refl))
first_count cards q n = absurd (n Cards (λ h. h) (0, omega arith, refl))
first_count (cards_in i) q n = absurd (n Cards (λ h. h) (0, omega arith, refl))
first_count (ordered_suit {o} w) q n = absurd (n (Ordered o) (λ h. h) (0, omega arith, refl))

first_atom : (E : Bound) → Turns IsLater (SpellsAtom [] E) SpellsFirstAtom
first_atom E T a a_number n = small.a_number
first_atom E T a (named_value i h) n = absurd (cc)
first_atom E T a (multiple {n = m} w h) n = absurd (n Star (λ h. h) (1, omega arith, refl))
first_atom E T a (a_count (count {c} {Q} {R} {q} {f} k h)) n =
    let e = first_seat h c R n in
    subst (λ Q. SpellsFirstAtom (c ∷ Open ∷ Q ++ R) (counted (f q))) (sym e) (first_count k q (subst (λ Q. HasNone IsLater (c ∷ Open ∷ Q ++ R)) e n))

first_value : (E : Bound) → Turns IsLater (SpellsValue [] E) (ValueOf SpellsFirstAtom)
first_value E = turn_value IsLater (SpellsAtom [] E) SpellsFirstAtom (first_atom E)

first_shape : (q : ASeat) (a b c d : Item) → HasNone IsLater (Shape ∷ Open ∷ Seat q ∷ four a b c d)
    → FirstTestOf (ValueOf SpellsFirstAtom) (Shape ∷ Open ∷ Seat q ∷ four a b c d) (shaped q (a ∷ b ∷ c ∷ d ∷ []))
first_shape q (Length a) (Length b) (Length c) (Length d) n = small.has_shape
first_shape q Any b c d n = absurd (n X (λ h. h) (4, omega arith, refl))
first_shape q a Any c d n = absurd (n X (λ h. h) (6, omega arith, refl))
first_shape q a b Any d n = absurd (n X (λ h. h) (8, omega arith, refl))
first_shape q a b c Any n = absurd (n X (λ h. h) (10, omega arith, refl))

first_pattern : (q : ASeat) (a b c d : Item) → HasNone IsLater (Pattern ∷ Open ∷ Seat q ∷ four a b c d)
    → FirstTestOf (ValueOf SpellsFirstAtom) (Pattern ∷ Open ∷ Seat q ∷ four a b c d)
    (patterned q (a ∷ b ∷ c ∷ d ∷ []))
first_pattern q (Length a) (Length b) (Length c) (Length d) n = small.has_pattern
first_pattern q Any b c d n = absurd (n X (λ h. h) (4, omega arith, refl))
first_pattern q a Any c d n = absurd (n X (λ h. h) (6, omega arith, refl))
first_pattern q a b Any d n = absurd (n X (λ h. h) (8, omega arith, refl))
first_pattern q a b c Any n = absurd (n X (λ h. h) (10, omega arith, refl))

first_hand :
    {E : Bound} {c : Token} {R : List Token} {f : ASeat → Form} → SpellsHandTest E c R f → (q : ASeat) → HasNone IsLater (c ∷ Open ∷ Seat q ∷ R)
    → FirstTestOf (ValueOf SpellsFirstAtom) (c ∷ Open ∷ Seat q ∷ R) (f q)
first_hand is_balanced q n = small.is_balanced
first_hand (has_shape a b c d) q n = first_shape q a b c d n
first_hand (has_pattern a b c d) q n = first_pattern q a b c d n
first_hand (has_stopper w i) q n = absurd (n Stops (λ h. h) (0, omega arith, refl))

-- the first tests, of values that V spells
abbrev FirstTests : Amounts → FormsAt
FirstTests V E = FirstTestOf V

first_test : TurnsTests IsLater (SpellsTest []) (FirstTests (ValueOf SpellsFirstAtom))
first_test E T t (comparison {L} {R} {a} {b} {o} l r) n =
    small.comparison (first_value E L a l (left_of IsLater L (Relation o) R n)) (first_value E R b r (right_of IsLater L (Relation o) R n))
first_test E T t (named_condition i h) n = absurd (cc)
first_test E T t (in_range {L} {m} {n = k} l) n = absurd
    (n In (λ h. h) (Contains-append_right L (In ∷ Number m ∷ Dash ∷ Number k ∷ []) In (0, omega arith, refl)))
first_test E T t (of_hand {c} {Q} {R} {q} {f} k h) n =
    let e = first_seat h c R n in
    subst (λ Q. FirstTestOf (ValueOf SpellsFirstAtom) (c ∷ Open ∷ Q ++ R) (f q)) (sym e)
    (first_hand k q (subst (λ Q. HasNone IsLater (c ∷ Open ∷ Q ++ R)) e n))

first_atom_again : {E : Bound} {T : List Token} {a : Amount} → SpellsFirstAtom T a → SpellsAtom [] E T a
first_atom_again small.a_number = a_number
first_atom_again small.hcp = a_count (count measure by_word)
first_atom_again small.hcp_in = a_count (count (measure_in by_suit) by_word)
first_atom_again small.len = a_count (count (len by_suit) by_word)

first_value_again : {E : Bound} {T : List Token} {a : Amount} → ValueOf SpellsFirstAtom T a → SpellsValue [] E T a
first_value_again (atom h) = atom (first_atom_again h)
first_value_again (plus l r) = plus (first_value_again l) (first_atom_again r)

first_test_again : TurnsTests IsNone (FirstTests (ValueOf SpellsFirstAtom)) (SpellsTest [])
first_test_again E T t (small.comparison l r) n = comparison (first_value_again l) (first_value_again r)
first_test_again E T t small.is_balanced n = of_hand is_balanced by_word
first_test_again E T t (small.has_shape {a} {b} {c} {d}) n = of_hand (has_shape (Length a) (Length b) (Length c) (Length d)) by_word
first_test_again E T t (small.has_pattern {a} {b} {c} {d}) n = of_hand (has_pattern (Length a) (Length b) (Length c) (Length d)) by_word

pub same_in_first_words : (T : List Token) (t : Form) → ((c : Token) → Contains T c → IsFirst c) → SpellsNameless T t ↔ SpellsInFirstWords T t
same_in_first_words T t n = (
  λ h. turn_cond IsLater everything no_additions leaves_later (SpellsTest []) (FirstTests (ValueOf SpellsFirstAtom))
      first_test h (λ c b i. b (n c i)),
  λ h. turn_cond IsNone no_additions everything (λ c a e b w. tt) (FirstTests (ValueOf SpellsFirstAtom))
      (SpellsTest []) first_test_again h (λ c b. absurd b),
)

-- ---- in the first grammar
oldest_first : (c : Token) → IsOldest c → IsFirst c
oldest_first Plus h = absurd h
oldest_first c h = h

turn_first_test : (B : Token → Type 0) (V W : Amounts) → Turns B V W → TurnsTests B (FirstTests V) (FirstTests W)
turn_first_test B V W f E T t (small.comparison {L} {R} {a} {b} {o} l r) n =
    small.comparison (f L a l (left_of B L (Relation o) R n)) (f R b r (right_of B L (Relation o) R n))
turn_first_test B V W f E T t small.is_balanced n = small.is_balanced
turn_first_test B V W f E T t small.has_shape n = small.has_shape
turn_first_test B V W f E T t small.has_pattern n = small.has_pattern

first_words_again : {T : List Token} {t : Form} → SpellsInFirstGrammar T t → SpellsInFirstWords T t
first_words_again h =
    turn_cond IsNone no_additions no_additions (keeps_words IsNone no_additions) (FirstTests SpellsFirstAtom) (FirstTests (ValueOf SpellsFirstAtom))
    (turn_first_test IsNone SpellsFirstAtom (ValueOf SpellsFirstAtom) (λ T a v n. atom v)) h (λ c b. absurd b)

-- What the first grammar spells, the whole grammar spells too.
pub spelled_again : {T : List Token} {t : Form} → SpellsInFirstGrammar T t → SpellsNameless T t
spelled_again h =
    turn_cond IsNone no_additions everything (λ c a e b w. tt) (FirstTests (ValueOf SpellsFirstAtom)) (SpellsTest [])
    first_test_again (first_words_again h) (λ c b. absurd b)

pub same_in_first_grammar : (T : List Token) (t : Form) → ((c : Token) → Contains T c → IsOldest c) → SpellsNameless T t ↔ SpellsInFirstGrammar T t
same_in_first_grammar T t n = (
  λ h. turn_cond IsPlus no_additions no_additions (keeps_words IsPlus no_additions)
      (FirstTests (ValueOf SpellsFirstAtom)) (FirstTests SpellsFirstAtom)
      (turn_first_test IsPlus (ValueOf SpellsFirstAtom) SpellsFirstAtom (one_atom SpellsFirstAtom))
      ((same_in_first_words T t (λ c i. oldest_first c (n c i))).0 h) (λ c e i. no_plus (subst IsOldest e (n c i))),
  spelled_again,
)
  where
    no_plus : IsOldest Plus → ⊥
    no_plus h = h
