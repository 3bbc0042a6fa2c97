-- No seat has more than thirteen cards by texts that aren't refused.
use Rattle.std.proofs.Common.{◌≡◌, ℕ, ◌≤◌, ◌&&◌, ◌||◌, Bool, true, false, cond, List, [], ◌∷◌, length, map, refl, arith}
use Rattle.std.specs.Prelude.{Option, Some, None, count_by, not, if◌then◌else◌}
use Rattle.std.proofs.lemmas.Bool.{leb-true}
use Rattle.std.proofs.lemmas.List.FromFn.{length-map-range_with_len}
use Rattle.std.proofs.lemmas.List.Sums.{sum_by-cons}
use Rattle.cards.specs.declared.seat.Seat.{Seat}
use Rattle.cards.specs.declared.seat.Seat.TheVariants.{North, East, South, West}
use Rattle.cards.specs.Fixed.{IsFixed, is_fixed_at}
use Rattle.cards.specs.Shuffle.{pack}
use Rattle.requests.specs.PredealtHands.{GivenHands, before, first_refused, fixed_of, given_at, has_given}
use Rattle.requests.specs.PredealtHands.{has_letters_alone, has_none_twice, has_room, has_three_dots}
use Rattle.requests.specs.PredealtHands.{is_hand, is_refused, is_refused_at, seat_given, shares}

-- the first of four that holds, by seat
abbrev pub first_of : Bool → Bool → Bool → Bool → Option Seat
first_of a b c d =
    if a then Some North else if b then Some East else if c then Some South else if d then Some West else None

abbrev pub of_seat : Seat → Bool → Bool → Bool → Bool → Bool
of_seat North a b c d = a
of_seat East a b c d = b
of_seat South a b c d = c
of_seat West a b c d = d

holds_at : (seat : Seat) (a b c d : Bool) → is_fixed_at seat (first_of a b c d) ≡ true → of_seat seat a b c d ≡ true
holds_at North true b c d h = refl
holds_at North false true c d h = h
holds_at North false false true d h = h
holds_at North false false false true h = h
holds_at North false false false false h = h
holds_at East true b c d h = absurd cc
holds_at East false true c d h = refl
holds_at East false false true d h = h
holds_at East false false false true h = h
holds_at East false false false false h = h
holds_at South true b c d h = absurd cc
holds_at South false true c d h = absurd cc
holds_at South false false true d h = refl
holds_at South false false false true h = h
holds_at South false false false false h = h
holds_at West true b c d h = absurd cc
holds_at West false true c d h = absurd cc
holds_at West false false true d h = absurd cc
holds_at West false false false true h = refl
holds_at West false false false false h = h

record NoneHolds (a b c d : Bool) : Type 0 where
  north : a ≡ false
  east : b ≡ false
  south : c ≡ false
  west : d ≡ false

none_holds : (a b c d : Bool) → first_of a b c d ≡ None → NoneHolds a b c d
none_holds true b c d h = absurd cc
none_holds false true c d h = absurd cc
none_holds false false true d h = absurd cc
none_holds false false false true h = absurd cc
none_holds false false false false h = record { north = refl; east = refl; south = refl; west = refl }

-- what implies another counts no more
fewer : {X : Type 0} (p : X → Bool) (q : ℕ → Bool) (f : ℕ → X) → ((c : ℕ) → p (f c) ≡ true → q c ≡ true)
    → (cs : List ℕ) → count_by p (map f cs) ≤ count_by q cs
fewer p q f h [] = omega arith
fewer p q f h (c ∷ cs) =
    rw (sum_by-cons (λ x. cond (p x) 1 0) (f c) (map f cs), sum_by-cons (λ x. cond (q x) 1 0) c cs)
    (let rest : count_by p (map f cs) ≤ count_by q cs = fewer p q f h cs in
    let first : cond (p (f c)) 1 0 ≤ cond (q c) 1 0 = one (p (f c)) (q c) (h c) in
    omega arith)
  where
    one : (a b : Bool) → (a ≡ true → b ≡ true) → cond a 1 0 ≤ cond b 1 0
    one true true h = omega arith
    one true false h = absurd (let e : false ≡ true = h refl in cc)
    one false b h = omega arith

room_in : (a b c d s : Bool) → (not (a && b && c && d) || s) ≡ false → d ≡ true
room_in true true true true s h = refl
room_in true true true false s h = absurd cc
room_in true true false d s h = absurd cc
room_in true false c d s h = absurd cc
room_in false b c d s h = absurd cc

-- the cards of a text that isn't refused
room_of : (earlier : GivenHands) (hand : Option (List ℕ)) → is_refused earlier hand ≡ false → count_by (has_given hand) pack ≤ 13
unfolding pack is_hand
room_of earlier None h = omega arith
room_of earlier (Some text) h =
    leb-true _ _ (room_in (has_three_dots text) (has_letters_alone text) (has_none_twice text) (has_room text) (shares earlier text) h)

pub has_at : (seat : Seat) (hands : GivenHands) (c : ℕ) → is_fixed_at seat (seat_given hands c) ≡ true → has_given (given_at hands seat) c ≡ true
has_at North hands c h = holds_at North (has_given hands.north c) (has_given hands.east c) (has_given hands.south c) (has_given hands.west c) h
has_at East hands c h = holds_at East (has_given hands.north c) (has_given hands.east c) (has_given hands.south c) (has_given hands.west c) h
has_at South hands c h = holds_at South (has_given hands.north c) (has_given hands.east c) (has_given hands.south c) (has_given hands.west c) h
has_at West hands c h = holds_at West (has_given hands.north c) (has_given hands.east c) (has_given hands.south c) (has_given hands.west c) h

pub not_refused : (seat : Seat) (hands : GivenHands) → first_refused hands ≡ None → is_refused_at hands seat ≡ false
unfolding first_refused
not_refused North hands h = (none_holds _ _ _ _ h).north
not_refused East hands h = (none_holds _ _ _ _ h).east
not_refused South hands h = (none_holds _ _ _ _ h).south
not_refused West hands h = (none_holds _ _ _ _ h).west

all_cards : (f : ℕ → Option Seat) → length (map f pack) ≡ 52
unfolding pack
all_cards f = length-map-range_with_len f 0 52

pub fixed_by_texts : (hands : GivenHands) → first_refused hands ≡ None → IsFixed (fixed_of hands)
unfolding fixed_of
fixed_by_texts hands h = record {
  count = all_cards (seat_given hands);
  room = λ seat.
      let fewer_fixed = fewer (is_fixed_at seat) (has_given (given_at hands seat)) (seat_given hands) (has_at seat hands) pack in
      omega (arith, fewer_fixed, room_of (before seat hands) (given_at hands seat) (not_refused seat hands h));
}
