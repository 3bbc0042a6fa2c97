-- A condition stays one if a token gives way to another of its kind, and if the bound classes stand
-- for others of their members.
use Rattle.std.proofs.Common.{◌≡◌, ℕ, List, [], ◌∷◌, ◌++◌, refl, sym, ap, ◌∙◌, subst}
use Rattle.std.specs.Prelude.{fold}
use Rattle.cards.specs.declared.seat.Seat.{Seat as ASeat}
use Rattle.cards.specs.declared.seat.Seat.TheVariants.{North}
use Rattle.cards.specs.declared.suit.Suit.{Suit as ASuit}
use Rattle.cards.specs.declared.suit.Suit.TheVariants.{Spades}
use Rattle.cond_lang.specs.declared.classes.Bound.{Bound}
use Rattle.cond_lang.specs.declared.classes.Choice.{Choice}
use Rattle.cond_lang.specs.declared.classes.Class.{Class as AClass}
use Rattle.cond_lang.specs.declared.classes.Params.{Params}
use Rattle.cond_lang.specs.declared.classes.Params.TheVariants.{OfSeat, OfSuit, OfBoth}
use Rattle.conditions.specs.declared.tree.Count.{Count}
use Rattle.conditions.specs.declared.tree.Item.{Item}
use Rattle.cond_lang.specs.declared.scanner.Token.{Token}
use Rattle.cond_lang.specs.declared.scanner.Token.TheVariants.{Or, And, Not, Balanced, Shape, Pattern}
use Rattle.cond_lang.specs.declared.scanner.Token.TheVariants.{Stops, Cards, Len, Ordered}
use Rattle.cond_lang.specs.declared.scanner.Token.TheVariants.{In, Neighbour, Number}
use Rattle.cond_lang.specs.declared.scanner.Token.TheVariants.{Open, Close, Comma, Dash, Plus, Star, Relation}
use Rattle.cond_lang.specs.declared.scanner.Token.TheVariants.{Name}
use Rattle.cond_lang.specs.Continuations.{kind_of}
use Rattle.conditions.specs.Form.{Amount, sum, number, counted, times, measured, suit_measured, cards_held}
use Rattle.conditions.specs.Form.{suit_cards_held, suit_length, length_by, Form, any_of, all_of}
use Rattle.conditions.specs.Form.{negation, compare, within, balanced, shaped, patterned, stops}
use Rattle.cond_lang.specs.Classes.{choice, seat_bound_to, seat_beside, bind, members, Names}
use Rattle.cond_lang.specs.Grammar.{Meanings, SpellsArgs, no_args, seat_arg, suit_arg, both_args, named_value}
use Rattle.cond_lang.specs.Grammar.{named_condition, SpellsCounted, a_count, multiple, SpellsSeat, by_word, by_bound}
use Rattle.cond_lang.specs.Grammar.{beside, SpellsCount, SpellsHandTest, SpellsAtom, SpellsValue, atom, plus}
use Rattle.cond_lang.specs.Grammar.{a_number, count, measure, measure_in, len, cards, cards_in, ordered_suit}
use Rattle.cond_lang.specs.Grammar.{four, SpellsCond, both, or, SpellsBoth}
use Rattle.cond_lang.specs.Grammar.{unit, and, SpellsUnit, not, brackets, quantified, test, SpellsTest, comparison}
use Rattle.cond_lang.specs.Grammar.{in_range, of_hand, is_balanced, has_shape, has_pattern, has_stopper, joined}
use Rattle.cond_lang.specs.Grammar.{SpellsEach, none as no_more, one_more}
use Rattle.cond_lang.proofs.LikeNames.{LikeNames, like_names, condition_at, value_at}
use Rattle.cond_lang.proofs.Scopes.{SameScope, bind_same, can_bind_same, some_of, members_some, seats_alike}
use Rattle.cond_lang.proofs.AlikeTokens.{Alike, alike_refl, join, moved, same, same_measure, like_number, like_seat}
use Rattle.cond_lang.proofs.AlikeTokens.{same_class, same_quantifier, bound_is_some, like_named, like_ranks}
use Rattle.cond_lang.proofs.AlikeTokens.{like_relation, like_item, between, split_is, parts, ends_with, more, none}

-- ---- seats

abbrev SomeSeat : Bound → List Token → Type 0
SomeSeat E T = (q : ASeat) × SpellsSeat E T q

keep_seat : {E F : Bound} {T U : List Token} {q : ASeat} → SameScope E F → SpellsSeat E T q → Alike T U → SomeSeat F U
keep_seat {F} f (by_word {q}) (more {y} e none) =
    let r = like_seat q y e in (r.0, moved (λ L. SpellsSeat F L r.0) (join r.1 refl) by_word)
keep_seat {E} {F} f (by_bound {c} {q} w h) (more {y} e none) =
    let r = some_of (seat_bound_to F c) (sym (seats_alike f c) ∙ bound_is_some (seat_bound_to E c) q h) in
    (r.0, moved (λ L. SpellsSeat F L r.0) (join (same_class c e) refl) (by_bound w r.1))
keep_seat {F} f (beside {n} {Q} w h) (more e0 (more {U} e1 a)) =
    let p = between Q Close [] U a in
    let r = keep_seat f h p.like_left in (
      seat_beside n r.0,
      moved (λ L. SpellsSeat F L (seat_beside n r.0))
          (join (same (Neighbour n) refl e0) (join (same Open refl e1) (ends_with p refl))) (beside w r.1),
    )

-- ---- atoms

abbrev SomeAtom : Meanings → Bound → List Token → Type 0
SomeAtom N E T = (a : Amount) × SpellsAtom N E T a

-- what counts, with other suits and ranks
abbrev SomeCount : Bound → Token → List Token → Type 0
SomeCount E c R = (f : ASeat → Count) × SpellsCount E c R f

some_count : {E : Bound} {c d : Token} {R S : List Token} (f : ASeat → Count) → d ≡ c → S ≡ R → SpellsCount E c R f → SomeCount E d S
some_count {E} {c} {d} {R} {S} f e i h = (f, subst (λ c. SpellsCount E c S f) (sym e) (subst (λ R. SpellsCount E c R f) (sym i) h))

keep_count :
    {E F : Bound} {c d : Token} {R S : List Token} {f : ASeat → Count} → SameScope E F → SpellsCount E c R f → kind_of c ≡ kind_of d → Alike R S
    → SomeCount F d S
keep_count f (measure {m}) e0 (more e1 none) = some_count (λ q. measured m q) (same_measure m e0) (join (same Close refl e1) refl) measure
keep_count f (measure_in {m} i) e0 (more e1 (more {y = z} e2 (more e3 none))) =
    let t = like_named f i z e2 in
    some_count (λ q. suit_measured m q t.0) (same_measure m e0)
    (join (same Comma refl e1) (join refl (join (same Close refl e3) refl))) (measure_in t.1)
keep_count f (len i) e0 (more e1 (more {y = z} e2 (more e3 none))) =
    let t = like_named f i z e2 in
    some_count (λ q. suit_length q t.0) (same Len refl e0) (join (same Comma refl e1) (join refl (join (same Close refl e3) refl))) (len t.1)
keep_count f (cards {h}) e0 (more e1 (more {y = z} e2 (more e3 none))) =
    let t = like_ranks h z e2 in
    some_count (λ q. cards_held q t.0) (same Cards refl e0) (join (same Comma refl e1) (join t.1 (join (same Close refl e3) refl))) cards
keep_count f (cards_in {h} i) e0 (more e1 (more {y = z} e2 (more e3 (more {y = w} e4 (more e5 none))))) =
    let t = like_named f i z e2 in
    let g = like_ranks h w e4 in
    some_count (λ q. suit_cards_held q t.0 g.0) (same Cards refl e0)
    (join (same Comma refl e1) (join refl (join (same Comma refl e3) (join g.1 (join (same Close refl e5) refl))))) (cards_in t.1)
keep_count f (ordered_suit {o} w) e0 (more e1 none) =
    some_count (λ q. length_by o q) (same (Ordered o) refl e0) (join (same Close refl e1) refl) (ordered_suit w)

abbrev SomeCounted : Bound → List Token → Type 0
SomeCounted E T = (k : Count) × SpellsCounted E T k

keep_counted : {E F : Bound} {T U : List Token} {k : Count} → SameScope E F → SpellsCounted E T k → Alike T U → SomeCounted F U
keep_counted {F} f (count {c} {Q} {R} k h) (more {y} e0 (more {U} e1 a)) =
    let p = parts Q R U a in
    let r = keep_seat f h p.like_first in
    let g = keep_count f k e0 p.like_second in
    (g.0 r.0, moved (λ L. SpellsCounted F L (g.0 r.0)) (join refl (join (same Open refl e1) p.is)) (count g.1 r.1))

-- ---- arguments

abbrev SomeArgs : Bound → Params → List Token → Type 0
SomeArgs E p T = (x : Choice) × SpellsArgs E p T x

-- a token that names a suit, and a bracket
like_last :
    {E F : Bound} {c : Token} {s : ASuit} → SameScope E F → Names E c s → (U : List Token) → Alike (c ∷ Close ∷ []) U
    → (t : ASuit) × (d : Token) × ((U ≡ d ∷ Close ∷ []) × Names F d t)
like_last f i U (more {y = z} e0 (more e1 none)) = let t = like_named f i z e0 in (t.0, z, (join refl (join (same Close refl e1) refl), t.1))

keep_args : {E F : Bound} {p : Params} {T U : List Token} {x : Choice} → SameScope E F → SpellsArgs E p T x → Alike T U → SomeArgs F p U
keep_args f no_args none = (choice Spades North, no_args)
keep_args {F} f (seat_arg {Q} h) (more {U} e a) =
    let p = between Q Close [] U a in
    let r = keep_seat f h p.like_left in
    (choice Spades r.0, moved (λ L. SpellsArgs F OfSeat L (choice Spades r.0)) (join (same Open refl e) (ends_with p refl)) (seat_arg r.1))
keep_args {F} f (suit_arg i) (more e0 (more {y = z} e1 (more e2 none))) =
    let t = like_named f i z e1 in (
      choice t.0 North,
      moved (λ L. SpellsArgs F OfSuit L (choice t.0 North))
          (join (same Open refl e0) (join refl (join (same Close refl e2) refl))) (suit_arg t.1),
    )
keep_args {F} f (both_args {Q} {c} h i) (more {U} e a) =
    let p = between Q Comma (c ∷ Close ∷ []) U a in
    let r = keep_seat f h p.like_left in
    let s = like_last f i p.right p.like_right in (
      choice s.0 r.0,
      moved (λ L. SpellsArgs F OfBoth L (choice s.0 r.0))
          (join (same Open refl e) (split_is p refl ∙ ap (λ R. p.left ++ Comma ∷ R) s.2.0)) (both_args r.1 s.2.1),
    )

-- the same names, and the same classes bound
abbrev pub SameWords : Meanings → Meanings → Bound → Bound → Type 0
SameWords N M E F = LikeNames N M × SameScope E F

keep_atom : {N M : Meanings} {E F : Bound} {T U : List Token} {a : Amount} → SameWords N M E F → SpellsAtom N E T a → Alike T U → SomeAtom M F U
keep_atom {M} {F} f (a_number {n}) (more {y} e none) =
    let m = like_number n y e in (number m.0, moved (λ L. SpellsAtom M F L (number m.0)) (join m.1 refl) a_number)
keep_atom f (a_count h) a = let k = keep_counted f.1 h a in (counted k.0, a_count k.1)
keep_atom {M} {F} f (named_value {n} {p} {f = g} i h) (more {y} e a) =
    let k = value_at f.0 n p g i in
    let x = keep_args f.1 h a in
    (k.0 x.0, moved (λ L. SpellsAtom M F L (k.0 x.0)) (join (same (Name n) refl e) refl) (named_value k.1 x.1))
keep_atom {M} {F} f (multiple {n} w h) (more {y} e0 (more e1 a)) =
    let m = like_number n y e0 in
    let k = keep_counted f.1 h a in
    (times m.0 k.0, moved (λ L. SpellsAtom M F L (times m.0 k.0)) (join m.1 (join (same Star refl e1) refl)) (multiple w k.1))

-- ---- values

abbrev pub SomeValue : Meanings → Bound → List Token → Type 0
SomeValue N E T = (a : Amount) × SpellsValue N E T a

pub keep_value : {N M : Meanings} {E F : Bound} {T U : List Token} {a : Amount} → SameWords N M E F
    → SpellsValue N E T a → Alike T U → SomeValue M F U
keep_value f (atom h) a = let k = keep_atom f h a in (k.0, atom k.1)
keep_value {M} {F} {T} {U} f (plus {L} {R} l r) a =
    let p = between L Plus R U a in
    let left = keep_value f l p.like_left in
    let right = keep_atom f r p.like_right in
    (sum left.0 right.0, moved (λ L. SpellsValue M F L (sum left.0 right.0)) (split_is p refl) (plus left.1 right.1))

-- ---- tests

abbrev SomeTest : Meanings → Bound → List Token → Type 0
SomeTest N E T = (t : Form) × SpellsTest N E T t

some_test : {N : Meanings} {E : Bound} {T U : List Token} (t : Form) → U ≡ T → SpellsTest N E T t → SomeTest N E U
some_test {N} {E} t e h = (t, moved (λ L. SpellsTest N E L t) e h)

-- number - number
like_range :
    (m n : ℕ) (U : List Token) → Alike (Number m ∷ Dash ∷ Number n ∷ []) U
    → (k : ℕ) × ((l : ℕ) × (U ≡ Number k ∷ Dash ∷ Number l ∷ []))
like_range m n U (more {y} e0 (more e1 (more {y = z} e2 none))) =
    let k = like_number m y e0 in
    let l = like_number n z e2 in
    (k.0, (l.0, join k.1 (join (same Dash refl e1) (join l.1 refl))))

-- , item - item - item - item )
record IsFour (U : List Token) : Type 0 where
  first : Item
  second : Item
  third : Item
  fourth : Item
  pub is : U ≡ four first second third fourth

like_four : (a b c d : Item) (U : List Token) → Alike (four a b c d) U → IsFour U
like_four a b c d U (more e2 (more {y = i} e3 (more e4 (more {y = j} e5 (more e6 (more {y = k} e7 (more e8 (more {y = l} e9 (more e10 none))))))))) =
    let w = like_item a i e3 in
    let x = like_item b j e5 in
    let y = like_item c k e7 in
    let z = like_item d l e9 in
    record {
      first = w.0;
      second = x.0;
      third = y.0;
      fourth = z.0;
      is =
          join (same Comma refl e2)
          (join w.1 (join (same Dash refl e4) (join x.1 (join (same Dash refl e6) (join y.1 (join (same Dash refl e8) (join z.1
          (join (same Close refl e10) refl))))))));
    }

-- a test of a hand, with other suits and items
abbrev SomeHandTest : Bound → Token → List Token → Type 0
SomeHandTest E c R = (f : ASeat → Form) × SpellsHandTest E c R f

some_hand_test : {E : Bound} {c d : Token} {R S : List Token} (f : ASeat → Form) → d ≡ c → S ≡ R → SpellsHandTest E c R f → SomeHandTest E d S
some_hand_test {E} {c} {d} {R} {S} f e i h = (f, subst (λ c. SpellsHandTest E c S f) (sym e) (subst (λ R. SpellsHandTest E c R f) (sym i) h))

keep_hand_test :
    {E F : Bound} {c d : Token} {R S : List Token} {f : ASeat → Form} → SameScope E F → SpellsHandTest E c R f → kind_of c ≡ kind_of d → Alike R S
    → SomeHandTest F d S
keep_hand_test s is_balanced e0 (more e1 none) = some_hand_test (λ q. balanced q) (same Balanced refl e0) (join (same Close refl e1) refl) is_balanced
keep_hand_test {S} s (has_shape a b c d) e h =
    let f = like_four a b c d S h in
    some_hand_test (λ q. shaped q (f.first ∷ f.second ∷ f.third ∷ f.fourth ∷ [])) (same Shape refl e) f.is
    (has_shape f.first f.second f.third f.fourth)
keep_hand_test {S} s (has_pattern a b c d) e h =
    let f = like_four a b c d S h in
    some_hand_test (λ q. patterned q (f.first ∷ f.second ∷ f.third ∷ f.fourth ∷ [])) (same Pattern refl e) f.is
    (has_pattern f.first f.second f.third f.fourth)
keep_hand_test s (has_stopper v i) e0 (more e1 (more {y = z} e2 (more e3 none))) =
    let t = like_named s i z e2 in
    some_hand_test (λ q. stops q t.0) (same Stops refl e0)
    (join (same Comma refl e1) (join refl (join (same Close refl e3) refl))) (has_stopper v t.1)

keep_test : {N M : Meanings} {E F : Bound} {T U : List Token} {t : Form} → SameWords N M E F → SpellsTest N E T t → Alike T U → SomeTest M F U
keep_test {T} {U} f (comparison {L} {R} {a} {b} {o} l r) h =
    let p = between L (Relation o) R U h in
    let left = keep_value f l p.like_left in
    let right = keep_value f r p.like_right in
    let by = like_relation o p.token p.like in
    some_test (compare left.0 by.0 right.0) (p.is ∙ ap (λ y. p.left ++ y ∷ p.right) by.1) (comparison left.1 right.1)
keep_test {T} {U} f (in_range {L} {a} {m} {n = k} l) h =
    let p = between L In (Number m ∷ Dash ∷ Number k ∷ []) U h in
    let left = keep_value f l p.like_left in
    let r = like_range m k p.right p.like_right in
    some_test (within left.0 r.0 r.1.0) (split_is p refl ∙ ap (λ R. p.left ++ In ∷ R) r.1.1) (in_range left.1)
keep_test {M} {F} f (named_condition {n} {p} {f = g} i h) (more {y} e a) =
    let k = condition_at f.0 n p g i in
    let x = keep_args f.1 h a in
    some_test (k.0 x.0) (join (same (Name n) refl e) refl) (named_condition k.1 x.1)
keep_test {M} {F} f (of_hand {c} {Q} {R} k h) (more {y} e0 (more {U} e1 a)) =
    let p = parts Q R U a in
    let r = keep_seat f.1 h p.like_first in
    let g = keep_hand_test f.1 k e0 p.like_second in
    some_test (g.0 r.0) (join refl (join (same Open refl e1) p.is)) (of_hand g.1 r.1)

-- ---- conditions

abbrev pub SomeCond : Meanings → Bound → List Token → Type 0
SomeCond N E T = (t : Form) × SpellsCond N E T t

abbrev SomeBoth : Meanings → Bound → List Token → Type 0
SomeBoth N E T = (t : Form) × SpellsBoth N E T t

abbrev SomeUnit : Meanings → Bound → List Token → Type 0
SomeUnit N E T = (t : Form) × SpellsUnit N E T t

-- with each member of the class the list spells a tree
abbrev pub SomeEach : Meanings → Bound → AClass → List Token → Type 0
SomeEach N E c T = (t : Form) × (ts : List Form) × SpellsEach N E c (members E c) T (t ∷ ts)

each_of : (N : Meanings) (E : Bound) (c : AClass) (T : List Token) → ((s : Choice) → SomeCond N (bind E c s) T)
    → (ss : List Choice) → (ts : List Form) × SpellsEach N E c ss T ts
each_of N E c T f [] = ([], no_more)
each_of N E c T f (s ∷ ss) =
    let t = f s in
    let ts = each_of N E c T f ss in
    (t.0 ∷ ts.0, one_more t.1 ts.1)

pub some_each : (N : Meanings) (E : Bound) (c : AClass) (T : List Token) → ((s : Choice) → SomeCond N (bind E c s) T) → SomeEach N E c T
some_each N E c T f =
    let m = members_some E c in
    let t = f m.0 in
    let ts = each_of N E c T f m.1 in
    (t.0, ts.0, subst (λ ss. SpellsEach N E c ss T (t.0 ∷ ts.0)) (sym m.2) (one_more t.1 ts.1))

module _ {N M : Meanings} where
  mutual
    pub keep_cond : {E F : Bound} {T U : List Token} {t : Form} → SameWords N M E F → SpellsCond N E T t → Alike T U → SomeCond M F U
    keep_cond f (both h) a = let k = keep_both f h a in (k.0, both k.1)
    keep_cond {F} {T} {U} f (or {L} {R} l r) a =
        let p = between L Or R U a in
        let left = keep_cond f l p.like_left in
        let right = keep_both f r p.like_right in
        (any_of left.0 right.0, moved (λ L. SpellsCond M F L (any_of left.0 right.0)) (split_is p refl) (or left.1 right.1))

    keep_both : {E F : Bound} {T U : List Token} {t : Form} → SameWords N M E F → SpellsBoth N E T t → Alike T U → SomeBoth M F U
    keep_both f (unit h) a = let k = keep_unit f h a in (k.0, unit k.1)
    keep_both {F} {T} {U} f (and {L} {R} l r) a =
        let p = between L And R U a in
        let left = keep_both f l p.like_left in
        let right = keep_unit f r p.like_right in
        (all_of left.0 right.0, moved (λ L. SpellsBoth M F L (all_of left.0 right.0)) (split_is p refl) (and left.1 right.1))

    keep_unit : {E F : Bound} {T U : List Token} {t : Form} → SameWords N M E F → SpellsUnit N E T t → Alike T U → SomeUnit M F U
    keep_unit {F} f (not h) (more {U} e a) =
        let k = keep_unit f h a in
        (negation k.0, moved (λ L. SpellsUnit M F L (negation k.0)) (join (same Not refl e) refl) (not k.1))
    keep_unit {F} f (brackets {T} h) (more {U} e a) =
        let p = between T Close [] U a in
        let k = keep_cond f h p.like_left in
        let is : U ≡ p.left ++ Close ∷ [] = ends_with p refl in
        (k.0, moved (λ L. SpellsUnit M F L k.0) (join (same Open refl e) is) (brackets k.1))
    keep_unit {F} f (quantified {k} {c} {T} w b each) (more e0 (more e1 (more {U} e2 a))) =
        let p = between T Close [] U a in
        let ts = some_each M F c p.left (keep_each f each p.like_left) in
        let is : U ≡ p.left ++ Close ∷ [] = ends_with p refl in
        let t : Form = fold (joined k) ts.0 ts.1 in (
          t,
          moved (λ L. SpellsUnit M F L t) (join (same_quantifier k e0) (join (same_class c e1) (join (same Open refl e2) is)))
              (quantified w (sym (can_bind_same f.1 c) ∙ b) ts.2),
        )
    keep_unit f (test h) a = let k = keep_test f h a in (k.0, test k.1)

    keep_each :
        {E F : Bound} {c : AClass} {ss : List Choice} {T U : List Token} {t : Form} {ts : List Form}
        → SameWords N M E F → SpellsEach N E c ss T (t ∷ ts) → Alike T U → (s : Choice) → SomeCond M (bind F c s) U
    keep_each {c} f (one_more {s = r} h hs) a s = keep_cond (f.0, bind_same f.1 c r s) h a

-- What is spelled with some suits and seats for the bound classes is spelled with others.
pub spelled_with : {N : Meanings} {E F : Bound} {T : List Token} {t : Form} → SameScope E F → SpellsCond N E T t → SomeCond N F T
spelled_with {N} {T} f h = keep_cond (like_names N, f) h (alike_refl T)

pub value_with : {N : Meanings} {E F : Bound} {T : List Token} {a : Amount} → SameScope E F → SpellsValue N E T a → SomeValue N F T
value_with {N} {T} f h = keep_value (like_names N, f) h (alike_refl T)
