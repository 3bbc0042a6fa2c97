-- Laws of the deals around fixed cards.
use Rattle.std.proofs.Common.{◌≡◌, ℕ, zero, suc, ◌+◌, ◌/◌, ◌<◌, ◌≤◌, cond, List, map, refl, sym, ap, ◌∙◌, arith, inl, inr}
use Rattle.std.specs.Prelude.{Option, Some, None, slice_get, unwrap_or}
use Rattle.std.specs.List.{range_with_len}
use Rattle.std.proofs.lemmas.Bool.{cases_lt}
use Rattle.std.proofs.lemmas.Option.{get_or_from_slice_get, slice_get-get_or, slice_get_within}
use Rattle.std.proofs.lemmas.List.{get_or-replicate}
use Rattle.std.proofs.lemmas.List.FromFn.{fill_by_all, get_or-map-range_with_len, length-map-range_with_len}
use Rattle.cards.specs.declared.seat.Seat.{Seat}
use Rattle.cards.specs.declared.seat.Seat.TheVariants.{North}
use Rattle.cards.specs.Pack.{seat_at_position, seat_of_number}
use Rattle.cards.specs.Shuffle.{drawn_places, card_at, pack}
use Rattle.cards.specs.Deals.{dealt, position_of}
use Rattle.cards.specs.Candidates.{candidate, state_before}
use Rattle.cards.specs.Fixed.{IsFixed, candidate_around, dealt_around, free_count, free_index, is_free, none_fixed}
use Rattle.cards.specs.Fixed.{open_seat, places_for, seat_around}
use Rattle.cards.specs.internal.Around.{fixed_at}
use Rattle.cards.proofs.Dealing.{card_at-position_of, position_of-card_at}
use Rattle.cards.proofs.FewPlaces.{are_places, is_less, isn't_less, same_places}
use Rattle.cards.proofs.FreeCards.{index_more}
use Rattle.cards.proofs.AroundDeals.{few_free}

nothing_at : (c : ℕ) → c < 52 → fixed_at none_fixed c ≡ None
nothing_at c h = get_or-replicate {A = Option Seat} 52 c None None h

index_of_all : (c : ℕ) → c ≤ 52 → free_index none_fixed c ≡ c
index_of_all zero h = refl
index_of_all (suc c) h =
    let e : suc c ≡ c + 1 = omega arith in
    ap (free_index none_fixed) e ∙ index_more none_fixed c (omega arith)
    ∙ ap (λ o. free_index none_fixed c + cond (is_free o) 1 0) (nothing_at c (omega arith))
    ∙ ap (λ n. n + 1) (index_of_all c (omega arith)) ∙ sym e

seat_at : (p : ℕ) → p < 52 → open_seat none_fixed p ≡ seat_at_position p
seat_at p h =
    elim (cases_lt p 13) [
      | inl a ↦
          let q : p / 13 ≡ 0 = omega arith in
          rw (is_less p 13 a) (ap seat_of_number (sym q))
      | inr a ↦ elim (cases_lt p 26) [
        | inl b ↦
            let q : p / 13 ≡ 1 = omega arith in
            rw (isn't_less p 13 (omega arith), is_less p 26 b) (ap seat_of_number (sym q))
        | inr b ↦ elim (cases_lt p 39) [
          | inl d ↦
              let q : p / 13 ≡ 2 = omega arith in
              rw (isn't_less p 13 (omega arith), isn't_less p 26 (omega arith), is_less p 39 d) (ap seat_of_number (sym q))
          | inr d ↦
              let q : p / 13 ≡ 3 = omega arith in
              rw (isn't_less p 13 (omega arith), isn't_less p 26 (omega arith), isn't_less p 39 (omega arith)) (ap seat_of_number (sym q))
        ]
      ]
    ]

-- the deal of the next draws
nothing_around : (x : ℕ) → dealt_around none_fixed (places_for 52 x) ≡ dealt (drawn_places x)
unfolding dealt_around dealt pack
nothing_around x =
    let places : List ℕ = places_for 52 x in
    let seat : ℕ → Seat = λ c. seat_at_position (position_of places c) in
    fill_by_all seat (dealt_around none_fixed places) 52 North
    (length-map-range_with_len (seat_around none_fixed places) 0 52)
    (λ c h.
    get_or-map-range_with_len (seat_around none_fixed places) 0 52 c c North h (omega arith)
    ∙ ap (λ o. unwrap_or o (open_seat none_fixed (position_of places (free_index none_fixed c)))) (nothing_at c h)
    ∙ ap (λ i. open_seat none_fixed (position_of places i)) (index_of_all c (omega arith))
    ∙ seat_at (position_of places c) (card_at-position_of places c (are_places 52 x) h).0)
    ∙ ap dealt (same_places x)

pub around_nothing : (seed k : ℕ) → candidate_around none_fixed seed k ≡ candidate seed k
around_nothing seed k = nothing_around (state_before seed k)

-- the seat of a card, from what is fixed there
seat_in_deal : (fixed : List (Option Seat)) (places : List ℕ) (c : ℕ) (o : Option Seat) → IsFixed fixed → slice_get fixed c ≡ Some o
    → slice_get (dealt_around fixed places) c ≡ Some (unwrap_or o (open_seat fixed (position_of places (free_index fixed c))))
unfolding dealt_around pack
seat_in_deal fixed places c o ok at =
    let below : c < 52 = omega (arith, ok.count, slice_get_within fixed c o at) in
    let long = length-map-range_with_len (seat_around fixed places) 0 52 in
    slice_get-get_or (map (seat_around fixed places) (range_with_len 0 52)) c North (rw long below)
    ∙ ap Some
    (get_or-map-range_with_len (seat_around fixed places) 0 52 c c North below (omega arith)
    ∙ ap (λ p. unwrap_or p (open_seat fixed (position_of places (free_index fixed c)))) (get_or_from_slice_get fixed c o None at))

pub fixed_stay : (fixed : List (Option Seat)) (seed k c : ℕ) (seat : Seat) → IsFixed fixed
    → slice_get fixed c ≡ Some (Some seat) → slice_get (candidate_around fixed seed k) c ≡ Some seat
fixed_stay fixed seed k c seat ok at = seat_in_deal fixed (places_for (free_count fixed) (state_before seed k)) c (Some seat) ok at

pub free_are_dealt : (fixed : List (Option Seat)) (seed k c i : ℕ) → IsFixed fixed → i < free_count fixed → slice_get fixed c ≡ Some None
    → free_index fixed c ≡ card_at (places_for (free_count fixed) (state_before seed k)) i
    → slice_get (candidate_around fixed seed k) c ≡ Some (open_seat fixed i)
free_are_dealt fixed seed k c i ok inside at index =
    let places : List ℕ = places_for (free_count fixed) (state_before seed k) in
    seat_in_deal fixed places c None ok at
    ∙ ap (λ p. Some (open_seat fixed p)) (ap (position_of places) index ∙ position_of-card_at places i (omega (arith, inside, few_free fixed ok)))
