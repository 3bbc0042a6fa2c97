-- A hand of a Deal tag's value, as a number in which bit c is set for card c.
use Rattle.std.specs.Prelude.{◌≡◌, ◌≤◌, ℕ, ◌+◌, ◌%◌, ◌^◌, ◌==◌, List, ◌++◌, Option, length}
use Rattle.std.specs.Prelude.{if◌then◌else◌, nat_lt}
use Rattle.cards.specs.declared.seat.Seat.{Seat}
use Rattle.std.specs.List.{count_by}
use Rattle.cards.specs.Given.{AreFree, is_among, with_cards}
use Rattle.cards.specs.Shuffle.{pack}
use Rattle.input.specs.DealValues.{gives, rank_in, seat_in}

-- in part p these bytes lead from a suit and the hand's cards to others, if nobody else has these
abbrev pub Steps : (suit cards : ℕ) → List ℕ → (next more : ℕ) → Type 0
Steps suit cards bytes next more =
    (first : Seat) (p : ℕ) (seats : List (Option Seat)) (rest : List ℕ)
    → p % 4 ≡ 0 → p ≤ 12 → length seats ≡ 52 → AreFree more seats
    → AreFree cards seats
    × (gives first (p + suit) (with_cards cards (seat_in first p) seats) (bytes ++ rest)
    ≡ gives first (p + next) (with_cards more (seat_in first p) seats) rest)

-- the bit of a letter, as that of a card of the first suit; 0 for any other byte
abbrev pub bit_in : ℕ → ℕ
bit_in byte = if nat_lt (rank_in byte) 13 then 2 ^ rank_in byte else 0

-- how far the cards after a byte move: by a suit after a dot, not at all after a letter, else so
-- far that no hand ends there
abbrev pub move_after : ℕ → ℕ
move_after byte = if byte == 46 then 13 else (if nat_lt (rank_in byte) 13 then 0 else 64)

-- how many of the 52 cards these are
abbrev pub how_many : ℕ → ℕ
how_many cards = count_by (is_among cards) pack

-- the text gives these cards
abbrev pub IsHand : ℕ → List ℕ → Type 0
IsHand cards text =
    (first : Seat) (p : ℕ) (seats : List (Option Seat)) (rest : List ℕ)
    → p % 4 ≡ 0 → p ≤ 12 → length seats ≡ 52 → AreFree cards seats
    → gives first p seats (text ++ rest)
    ≡ gives first (p + 3) (with_cards cards (seat_in first p) seats) rest
