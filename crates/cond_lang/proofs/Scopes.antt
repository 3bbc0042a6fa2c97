-- Environments in which the same classes are bound, and the members of a class.
use Rattle.std.proofs.Common.{◌≡◌, ◌+◌, ◌≤◌, ◌||◌, Bool, true, false, not, cond, List, [], ◌∷◌, Option, Some, None, refl, ap, arith}
use Rattle.std.specs.Prelude.{is_some}
use Rattle.cards.specs.declared.seat.Seat.TheVariants.{North, East, South, West}
use Rattle.cards.specs.declared.suit.Suit.{Suit as ASuit}
use Rattle.cards.specs.declared.suit.Suit.TheVariants.{Spades, Hearts, Diamonds, Clubs}
use Rattle.cond_lang.specs.declared.classes.Bound.{Bound}
use Rattle.cond_lang.specs.declared.classes.Choice.{Choice}
use Rattle.cond_lang.specs.declared.classes.Class.{Class as AClass}
use Rattle.cond_lang.specs.declared.classes.Class.TheVariants.{Suit as AnySuit, Major, Minor, Other, Seat as AnySeat, NorthSouth, EastWest}
use Rattle.cond_lang.specs.Classes.{bound_to, seat_bound_to, is_bound, bind, can_bind, is_this, is_taken, choice, members}
use Rattle.cond_lang.specs.internal.Reading.{can_quantify}

-- the same classes are bound, whatever they stand for
abbrev pub SameScope : Bound → Bound → Type 0
SameScope E F = (c : AClass) → is_bound E c ≡ is_bound F c

-- the same classes mean a suit, and the same a seat
or_false : (a b : Bool) → (a || false) ≡ (b || false) → a ≡ b
or_false true true e = refl
or_false true false e = absurd (cc)
or_false false true e = absurd (cc)
or_false false false e = refl

pub suits_alike : {E F : Bound} → SameScope E F → (c : AClass) → is_some (bound_to E c) ≡ is_some (bound_to F c)
suits_alike {E} {F} f AnySuit = or_false (is_some E.suit) (is_some F.suit) (f AnySuit)
suits_alike {E} {F} f Major = or_false (is_some E.major) (is_some F.major) (f Major)
suits_alike {E} {F} f Minor = or_false (is_some E.minor) (is_some F.minor) (f Minor)
suits_alike {E} {F} f Other = or_false (is_some E.other) (is_some F.other) (f Other)
suits_alike f AnySeat = refl
suits_alike f NorthSouth = refl
suits_alike f EastWest = refl

pub seats_alike : {E F : Bound} → SameScope E F → (c : AClass) → is_some (seat_bound_to E c) ≡ is_some (seat_bound_to F c)
seats_alike f AnySeat = f AnySeat
seats_alike f NorthSouth = f NorthSouth
seats_alike f EastWest = f EastWest
seats_alike f x = refl

pub same_scope : (E : Bound) → SameScope E E
same_scope E c = refl

pub bind_same : {E F : Bound} → SameScope E F → (c : AClass) (s t : Choice) → SameScope (bind E c s) (bind F c t)
bind_same f AnySuit s t AnySuit = refl
bind_same f Major s t Major = refl
bind_same f Minor s t Minor = refl
bind_same f Other s t Other = refl
bind_same f AnySeat s t AnySeat = refl
bind_same f NorthSouth s t NorthSouth = refl
bind_same f EastWest s t EastWest = refl
bind_same f c s t d = f d

pub can_bind_same : {E F : Bound} → SameScope E F → (c : AClass) → can_bind E c ≡ can_bind F c
can_bind_same f Other = rw (f Other, f AnySuit, f Major, f Minor) refl
can_bind_same f c = ap not (f c)

pub can_quantify_same : {E F : Bound} → SameScope E F → can_quantify E ≡ can_quantify F
can_quantify_same {E} {F} f =
    rw (
      can_bind_same f AnySuit,
      can_bind_same f Major,
      can_bind_same f Minor,
      can_bind_same f Other,
      can_bind_same f AnySeat,
      can_bind_same f NorthSouth,
      can_bind_same f EastWest,
    ) refl

pub some_of : {A : Type 0} (o : Option A) → is_some o ≡ true → (x : A) × (o ≡ Some x)
some_of None h = absurd (cc)
some_of (Some x) h = (x, refl)

-- some class can be bound
abbrev pub SomeBindable : Bound → Type 0
SomeBindable E = (c : AClass) × (can_bind E c ≡ true)

first_true : {P : Type 0} (a b : Bool) → (a || b) ≡ true → (a ≡ true → P) → (b ≡ true → P) → P
first_true true b h f g = f refl
first_true false b h f g = g h

pub some_bindable : (E : Bound) → can_quantify E ≡ true → SomeBindable E
some_bindable E h =
    first_true (can_bind E AnySuit) _ h (λ e. (AnySuit, e)) (λ h.
    first_true (can_bind E Major) _ h (λ e. (Major, e)) (λ h.
    first_true (can_bind E Minor) _ h (λ e. (Minor, e)) (λ h.
    first_true (can_bind E Other) _ h (λ e. (Other, e)) (λ h.
    first_true (can_bind E AnySeat) _ h (λ e. (AnySeat, e)) (λ h.
    first_true (can_bind E NorthSouth) _ h (λ e. (NorthSouth, e)) (λ e. (EastWest, e)))))))

-- where a class can be bound, some can
or_left : (a b : Bool) → a ≡ true → (a || b) ≡ true
or_left a b e = rw e refl

or_right : (a b : Bool) → b ≡ true → (a || b) ≡ true
or_right true b e = refl
or_right false b e = e

pub bindable_quantifies : (E : Bound) (c : AClass) → can_bind E c ≡ true → can_quantify E ≡ true
bindable_quantifies E AnySuit e = or_left (can_bind E AnySuit) _ e
bindable_quantifies E Major e = or_right (can_bind E AnySuit) _ (or_left (can_bind E Major) _ e)
bindable_quantifies E Minor e = or_right (can_bind E AnySuit) _ (or_right (can_bind E Major) _ (or_left (can_bind E Minor) _ e))
bindable_quantifies E Other e = or_right (can_bind E AnySuit) _
    (or_right (can_bind E Major) _ (or_right (can_bind E Minor) _ (or_left (can_bind E Other) _ e)))
bindable_quantifies E AnySeat e = or_right (can_bind E AnySuit) _
    (or_right (can_bind E Major) _ (or_right (can_bind E Minor) _
    (or_right (can_bind E Other) _ (or_left (can_bind E AnySeat) _ e))))
bindable_quantifies E NorthSouth e = or_right (can_bind E AnySuit) _
    (or_right (can_bind E Major) _ (or_right (can_bind E Minor) _
    (or_right (can_bind E Other) _ (or_right (can_bind E AnySeat) _ (or_left (can_bind E NorthSouth) _ e)))))
bindable_quantifies E EastWest e = or_right (can_bind E AnySuit) _
    (or_right (can_bind E Major) _ (or_right (can_bind E Minor) _
    (or_right (can_bind E Other) _ (or_right (can_bind E AnySeat) _ (or_right (can_bind E NorthSouth) _ e)))))

-- ---- each class has a member

abbrev pub first : Choice
first = choice Spades North

abbrev second : Choice
second = choice Hearts East

abbrev third : Choice
third = choice Diamonds South

abbrev fourth : Choice
fourth = choice Clubs West

one_of_or : (a b : Bool) → cond (a || b) 1 0 ≤ cond a 1 0 + cond b 1 0
one_of_or true b = omega arith
one_of_or false b = omega arith

-- a class stands for one suit at most
at_most_one : (o : Option ASuit) → cond (is_this o Spades) 1 0
    + (cond (is_this o Hearts) 1 0 + (cond (is_this o Diamonds) 1 0 + cond (is_this o Clubs) 1 0)) ≤ 1
at_most_one None = omega arith
at_most_one (Some Spades) = omega arith
at_most_one (Some Hearts) = omega arith
at_most_one (Some Diamonds) = omega arith
at_most_one (Some Clubs) = omega arith

taken_count : (E : Bound) (s : ASuit) → cond (is_taken E s) 1 0 ≤ cond (is_this E.suit s) 1 0
    + (cond (is_this E.major s) 1 0 + cond (is_this E.minor s) 1 0)
taken_count E s =
    omega (arith, one_of_or (is_this E.suit s) (is_this E.major s || is_this E.minor s), one_of_or (is_this E.major s) (is_this E.minor s))

-- the suits that are not taken
abbrev unless_taken : Bool → Choice → List Choice → List Choice
unless_taken b s ss = cond (not b) (s ∷ ss) ss

abbrev kept : Bool → Bool → Bool → Bool → List Choice
kept a b c d = unless_taken a first (unless_taken b second (unless_taken c third (unless_taken d fourth [])))

-- the list has an element
abbrev pub IsSome : {A : Type 0} → List A → Type 0
IsSome {A} xs = (x : A) × (more : List A) × (xs ≡ x ∷ more)

some_kept : (a b c d : Bool) → cond a 1 0 + (cond b 1 0 + (cond c 1 0 + cond d 1 0)) ≤ 3 → IsSome (kept a b c d)
some_kept false b c d h = (first, _, refl)
some_kept true false c d h = (second, _, refl)
some_kept true true false d h = (third, _, refl)
some_kept true true true false h = (fourth, [], refl)
some_kept true true true true h = absurd (omega (arith, h))

pub members_some : (E : Bound) (c : AClass) → IsSome (members E c)
members_some E AnySuit = (first, _, refl)
members_some E Major = (first, _, refl)
members_some E Minor = (third, _, refl)
members_some E AnySeat = (first, _, refl)
members_some E NorthSouth = (first, _, refl)
members_some E EastWest = (second, _, refl)
members_some E Other =
    some_kept (is_taken E Spades) (is_taken E Hearts) (is_taken E Diamonds) (is_taken E Clubs)
    (omega (
      arith,
      taken_count E Spades,
      taken_count E Hearts,
      taken_count E Diamonds,
      taken_count E Clubs,
      at_most_one E.suit,
      at_most_one E.major,
      at_most_one E.minor,
    ))
