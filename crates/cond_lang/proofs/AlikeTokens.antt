-- Tokens of the same kinds, one by one and in lists.
use Rattle.std.proofs.Common.{◌≡◌, ℕ, true, List, [], ◌∷◌, ◌++◌, Option, Some, None, refl, sym, ap, ◌∙◌, subst}
use Rattle.std.specs.Prelude.{is_some}
use Rattle.cards.specs.declared.honours.Honours.{Honours}
use Rattle.cards.specs.declared.hand.Measure.{Measure as AMeasure}
use Rattle.cards.specs.declared.seat.Seat.{Seat as ASeat}
use Rattle.cards.specs.declared.suit.Suit.{Suit as ASuit}
use Rattle.cond_lang.specs.declared.classes.Bound.{Bound}
use Rattle.cond_lang.specs.declared.classes.Class.{Class as AClass}
use Rattle.cond_lang.specs.declared.classes.Quantifier.{Quantifier as AQuantifier}
use Rattle.cond_lang.specs.declared.words.Kind.{Kind}
use Rattle.cond_lang.specs.declared.words.Kind.TheVariants as kind
use Rattle.conditions.specs.declared.tree.Item.{Item}
use Rattle.conditions.specs.declared.tree.Item.TheVariants.{Length, Any}
use Rattle.conditions.specs.declared.tree.Op.{Op}
use Rattle.cond_lang.specs.declared.scanner.Token.{Token}
use Rattle.cond_lang.specs.declared.scanner.Token.TheVariants.{Or, And, Not, Balanced, Shape, Pattern, Quantifier}
use Rattle.cond_lang.specs.declared.scanner.Token.TheVariants.{Stops, Measure, Cards, Len, Ordered}
use Rattle.cond_lang.specs.declared.scanner.Token.TheVariants.{In, X, Seat, Suit, Class, Neighbour, Ranks, Number}
use Rattle.cond_lang.specs.declared.scanner.Token.TheVariants.{Open, Close, Comma, Dash, Plus, Star, Relation, Let}
use Rattle.cond_lang.specs.declared.scanner.Token.TheVariants.{Is, Name}
use Rattle.cond_lang.specs.Continuations.{kind_of}
use Rattle.cond_lang.specs.Classes.{bound_to, Names, by_suit, by_class}
use Rattle.cond_lang.specs.Grammar.{item_token}
use Rattle.cond_lang.proofs.Scopes.{SameScope, some_of, suits_alike}

-- the lists have tokens of the same kinds
pub data Alike : List Token → List Token → Type 0 where
  none : Alike [] []
  more : {x y : Token} {T U : List Token} → kind_of x ≡ kind_of y → Alike T U → Alike (x ∷ T) (y ∷ U)

pub alike_refl : (T : List Token) → Alike T T
alike_refl [] = none
alike_refl (x ∷ T) = more refl (alike_refl T)

pub alike_append : {T U R S : List Token} → Alike T U → Alike R S → Alike (T ++ R) (U ++ S)
alike_append none b = b
alike_append (more e a) b = more e (alike_append a b)

pub join : {x y : Token} {T U : List Token} → x ≡ y → T ≡ U → x ∷ T ≡ y ∷ U
join {x} {y} {T} {U} e i = ap (λ x. x ∷ T) e ∙ ap (λ T. y ∷ T) i

pub moved : (N : List Token → Type 0) {T U : List Token} → U ≡ T → N T → N U
moved N e h = subst N (sym e) h

-- ---- one token

-- the only token of a kind
abbrev only : Kind → Option Token
only kind.Not = Some Not
only kind.Open = Some Open
only kind.Balanced = Some Balanced
only kind.Shape = Some Shape
only kind.Pattern = Some Pattern
only (kind.Quantifier k) = Some (Quantifier k)
only kind.Stops = Some Stops
only (kind.Measure m) = Some (Measure m)
only kind.Cards = Some Cards
only kind.Len = Some Len
only (kind.Ordered o) = Some (Ordered o)
only kind.Plus = Some Plus
only kind.Star = Some Star
only kind.In = Some In
only kind.Dash = Some Dash
only kind.X = Some X
only kind.Comma = Some Comma
only (kind.Class c) = Some (Class c)
only (kind.Neighbour n) = Some (Neighbour n)
only kind.Close = Some Close
only kind.And = Some And
only kind.Or = Some Or
only kind.Let = Some Let
only kind.Is = Some Is
only (kind.Name n) = Some (Name n)
only k = None

only_of : (y t : Token) → only (kind_of y) ≡ Some t → y ≡ t
only_of (Seat q) t e = absurd (cc)
only_of (Suit s) t e = absurd (cc)
only_of (Ranks h) t e = absurd (cc)
only_of (Number n) t e = absurd (cc)
only_of (Relation o) t e = absurd (cc)
only_of y t e = cc

-- a token that is the only one of its kind gives way to itself alone
pub same : (x : Token) {y : Token} → only (kind_of x) ≡ Some x → kind_of x ≡ kind_of y → y ≡ x
same x {y} h e = only_of y x (ap only (sym e) ∙ h)

pub same_measure : (m : AMeasure) {y : Token} → kind_of (Measure m) ≡ kind_of y → y ≡ Measure m
same_measure m e = same (Measure m) refl e

pub like_number : (n : ℕ) (y : Token) → kind_of (Number n) ≡ kind_of y → (m : ℕ) × (y ≡ Number m)
like_number n (Number m) e = (m, refl)
like_number n y e = absurd (cc)

pub like_seat : (q : ASeat) (y : Token) → kind_of (Seat q) ≡ kind_of y → (r : ASeat) × (y ≡ Seat r)
like_seat q (Seat r) e = (r, refl)
like_seat q y e = absurd (cc)

pub same_class : (c : AClass) {y : Token} → kind_of (Class c) ≡ kind_of y → y ≡ Class c
same_class c e = same (Class c) refl e

pub same_quantifier : (k : AQuantifier) {y : Token} → kind_of (Quantifier k) ≡ kind_of y → y ≡ Quantifier k
same_quantifier k e = same (Quantifier k) refl e

-- some suit that the token names
abbrev SomeNamed : Bound → Token → Type 0
SomeNamed E y = (r : ASuit) × Names E y r

like_suit : (F : Bound) (s : ASuit) (y : Token) → kind_of (Suit s) ≡ kind_of y → SomeNamed F y
like_suit F s (Suit r) e = (r, by_suit)
like_suit F s y e = absurd (cc)

class_named : (F : Bound) (c : AClass) (y : Token) → y ≡ Class c → (r : ASuit) × (bound_to F c ≡ Some r) → SomeNamed F y
class_named F c y e r = (r.0, subst (λ x. Names F x r.0) (sym e) (by_class r.1))

pub bound_is_some : {A : Type 0} (o : Option A) (s : A) → o ≡ Some s → is_some o ≡ true
bound_is_some None s e = absurd (cc)
bound_is_some (Some r) s e = refl

pub like_named : {E F : Bound} → SameScope E F → {x : Token} {s : ASuit} → Names E x s → (y : Token) → kind_of x ≡ kind_of y → SomeNamed F y
like_named {E} {F} f (by_suit {s}) y e = like_suit F s y e
like_named {E} {F} f (by_class {c} {s} h) y e =
    class_named F c y (same_class c e) (some_of (bound_to F c) (sym (suits_alike f c) ∙ bound_is_some (bound_to E c) s h))

pub like_ranks : (h : Honours) (y : Token) → kind_of (Ranks h) ≡ kind_of y → (r : Honours) × (y ≡ Ranks r)
like_ranks h (Ranks r) e = (r, refl)
like_ranks h y e = absurd (cc)

pub like_relation : (o : Op) (y : Token) → kind_of (Relation o) ≡ kind_of y → (p : Op) × (y ≡ Relation p)
like_relation o (Relation p) e = (p, refl)
like_relation o y e = absurd (cc)

pub like_item : (i : Item) (y : Token) → kind_of (item_token i) ≡ kind_of y → (j : Item) × (y ≡ item_token j)
like_item (Length n) y e = let m = like_number n y e in (Length m.0, m.1)
like_item Any y e = (Any, same X refl e)

-- ---- a token between two lists

pub record Between (L : List Token) (x : Token) (R U : List Token) : Type 0 where
  pub left : List Token
  pub token : Token
  pub right : List Token
  pub is : U ≡ left ++ token ∷ right
  pub like_left : Alike L left
  pub like : kind_of x ≡ kind_of token
  pub like_right : Alike R right

pub between : (L : List Token) (x : Token) (R U : List Token) → Alike (L ++ x ∷ R) U → Between L x R U
between [] x R [] a = elim a [ ]
between [] x R (y ∷ U) (more e a) = record { left = []; token = y; right = U; is = refl; like_left = none; like = e; like_right = a }
between (z ∷ L) x R [] a = elim a [ ]
between (z ∷ L) x R (y ∷ U) (more e a) =
    let p = between L x R U a in
    record {
      left = y ∷ p.left;
      token = p.token;
      right = p.right;
      is = ap (λ L. y ∷ L) p.is;
      like_left = more e p.like_left;
      like = p.like;
      like_right = p.like_right;
    }

-- the same, where the token between is the only one of its kind
pub split_is : {L R U : List Token} {x : Token} (p : Between L x R U) → only (kind_of x) ≡ Some x → U ≡ p.left ++ x ∷ p.right
split_is {L} {R} {U} {x} p h = p.is ∙ ap (λ y. p.left ++ y ∷ p.right) (same x h p.like)

-- two lists, one after the other
pub record Parts (L R U : List Token) : Type 0 where
  pub first : List Token
  pub second : List Token
  pub is : U ≡ first ++ second
  pub like_first : Alike L first
  pub like_second : Alike R second

pub parts : (L R U : List Token) → Alike (L ++ R) U → Parts L R U
parts [] R U a = record { first = []; second = U; is = refl; like_first = none; like_second = a }
parts (z ∷ L) R [] a = elim a [ ]
parts (z ∷ L) R (y ∷ U) (more e a) =
    let p = parts L R U a in
    record { first = y ∷ p.first; second = p.second; is = ap (λ L. y ∷ L) p.is; like_first = more e p.like_first; like_second = p.like_second }

pub nothing_like : (U : List Token) → Alike [] U → U ≡ []
nothing_like [] none = refl
nothing_like (y ∷ U) a = elim a [ ]

-- a token that ends the list
pub ends_with : {L U : List Token} {x : Token} (p : Between L x [] U) → only (kind_of x) ≡ Some x → U ≡ p.left ++ x ∷ []
ends_with {L} {U} {x} p h = split_is p h ∙ ap (λ R. p.left ++ x ∷ R) (nothing_like p.right p.like_right)
