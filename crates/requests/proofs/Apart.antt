-- Texts that aren't refused are hands, and each card is at the seat whose text has it.
use Rattle.std.proofs.Common.{◌≡◌, ◌∙◌, ℕ, ◌<◌, ◌&&◌, ◌||◌, Bool, true, false, List, [], ◌∷◌, get_or, map, ap, sym, refl, arith}
use Rattle.std.specs.Prelude.{Option, Some, None, is_some, not, if◌then◌else◌}
use Rattle.std.specs.List.{find}
use Rattle.std.proofs.lemmas.List.FromFn.{get_or-map-range_with_len}
use Rattle.cards.specs.declared.seat.Seat.{Seat}
use Rattle.cards.specs.declared.seat.Seat.TheVariants.{North, East, South, West}
use Rattle.cards.specs.Deals.{all_seats}
use Rattle.cards.specs.Fixed.{is_fixed_at}
use Rattle.cards.specs.Shuffle.{pack}
use Rattle.requests.specs.PredealtHands.{AreHands, GivenHands, IsFixedBy, before, first_refused}
use Rattle.requests.specs.PredealtHands.{fixed_of, given_at, has_card, has_given, is_hand}
use Rattle.requests.specs.PredealtHands.{is_refused, is_refused_at, seat_given, shares}
use Rattle.requests.proofs.Cards.{some_card}
use Rattle.requests.proofs.Room.{first_of, has_at, not_refused, of_seat}

neither : (a b : Bool) → (not a || b) ≡ false → (a ≡ true) × (b ≡ false)
neither true false h = (refl, refl)
neither true true h = absurd cc
neither false b h = absurd cc

hand_given : (earlier : GivenHands) (given : Option (List ℕ)) (text : List ℕ) → given ≡ Some text
    → is_refused earlier given ≡ false → (is_hand text ≡ true) × (shares earlier text ≡ false)
hand_given earlier None text e h = absurd cc
hand_given earlier (Some t) text e h =
    let same : t ≡ text = cc in
    rw (← same) (neither (is_hand t) (shares earlier t) h)

pub are_hands : (hands : GivenHands) → first_refused hands ≡ None → AreHands hands
are_hands hands h = λ seat text e. (hand_given (before seat hands) (given_at hands seat) text e (not_refused seat hands h)).0

-- ---- the first that is refused

found_at : {X : Type 0} (p : X → Bool) (y x : X) (rest : Option X) (b : Bool) → p y ≡ b → (rest ≡ Some x → p x ≡ true)
    → (if b then Some y else rest) ≡ Some x → p x ≡ true
found_at p y x rest true h after e =
    let same : y ≡ x = cc in
    rw (← same) h
found_at p y x rest false h after e = after e

found : {X : Type 0} (p : X → Bool) (xs : List X) (x : X) → find p xs ≡ Some x → p x ≡ true
found p [] x e = absurd cc
found p (y ∷ ys) x e = found_at p y x (find p ys) (p y) refl (found p ys x) e

pub refused_first : (hands : GivenHands) (seat : Seat) → first_refused hands ≡ Some seat → is_refused_at hands seat ≡ true
unfolding first_refused
refused_first hands seat e = found (is_refused_at hands) all_seats seat e

-- ---- no card of an earlier text

or_false : (b : Bool) → (b ≡ true → ⊥) → b ≡ false
or_false true h = absurd (h refl)
or_false false h = refl

and_true : (a b : Bool) → a ≡ true → b ≡ true → (a && b) ≡ true
and_true true b e k = k
and_true false b e k = absurd cc

not_earlier : (earlier : GivenHands) (given : Option (List ℕ)) (c : ℕ) → c < 52 → is_refused earlier given ≡ false
    → has_given given c ≡ true → is_some (seat_given earlier c) ≡ false
unfolding shares
not_earlier earlier None c small h e = absurd cc
not_earlier earlier (Some text) c small h e =
    or_false (is_some (seat_given earlier c))
    (λ k.
    let alone : shares earlier text ≡ false = (neither (is_hand text) (shares earlier text) h).1 in
    let shared : shares earlier text ≡ true = some_card (λ n. has_card text n && is_some (seat_given earlier n)) c
    small (and_true (has_card text c) (is_some (seat_given earlier c)) e k) in
    cc)

-- the first of those before a seat that holds
abbrev first_before : Seat → Bool → Bool → Bool → Option Seat
first_before North a b c = None
first_before East a b c = if a then Some North else None
first_before South a b c = if a then Some North else if b then Some East else None
first_before West a b c = if a then Some North else if b then Some East else if c then Some South else None

first_is : (seat : Seat) (a b c d : Bool) → of_seat seat a b c d ≡ true → is_some (first_before seat a b c) ≡ false → first_of a b c d ≡ Some seat
first_is North true b c d e h = refl
first_is North false b c d e h = absurd cc
first_is East true b c d e h = absurd cc
first_is East false true c d e h = refl
first_is East false false c d e h = absurd cc
first_is South true b c d e h = absurd cc
first_is South false true c d e h = absurd cc
first_is South false false true d e h = refl
first_is South false false false d e h = absurd cc
first_is West true b c d e h = absurd cc
first_is West false true c d e h = absurd cc
first_is West false false true d e h = absurd cc
first_is West false false false true e h = refl
first_is West false false false false e h = absurd cc

seat_has : (seat : Seat) (hands : GivenHands) (c : ℕ) → has_given (given_at hands seat) c ≡ true
    → is_some (seat_given (before seat hands) c) ≡ false → seat_given hands c ≡ Some seat
seat_has North hands c e h = first_is North (has_given hands.north c) (has_given hands.east c) (has_given hands.south c) (has_given hands.west c) e h
seat_has East hands c e h = first_is East (has_given hands.north c) (has_given hands.east c) (has_given hands.south c) (has_given hands.west c) e h
seat_has South hands c e h = first_is South (has_given hands.north c) (has_given hands.east c) (has_given hands.south c) (has_given hands.west c) e h
seat_has West hands c e h = first_is West (has_given hands.north c) (has_given hands.east c) (has_given hands.south c) (has_given hands.west c) e h

-- ---- the seat of each card

own_seat : (seat : Seat) → is_fixed_at seat (Some seat) ≡ true
own_seat North = refl
own_seat _ = refl

at_card : (f : ℕ → Option Seat) (c : ℕ) → c < 52 → get_or (map f pack) c None ≡ f c
unfolding pack
at_card f c h = get_or-map-range_with_len f 0 52 c c None h (omega arith)

pub is_fixed_by : (hands : GivenHands) → first_refused hands ≡ None → IsFixedBy hands (fixed_of hands)
unfolding fixed_of
is_fixed_by hands h = λ seat c small. (
  λ e. has_at seat hands c (ap (is_fixed_at seat) (sym (at_card (seat_given hands) c small) ∙ e) ∙ own_seat seat),
  λ e.
      at_card (seat_given hands) c small
      ∙ seat_has seat hands c e (not_earlier (before seat hands) (given_at hands seat) c small (not_refused seat hands h) e),
)
