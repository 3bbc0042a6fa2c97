-- Cards given to a seat all at once. They are a number, in which bit c is set for card c.
use Rattle.std.specs.Prelude.{◌≡◌, ℕ, ◌==◌, Bool, List, map, slice_index_or, Option, Some, None, if◌then◌else◌}
use Rattle.std.specs.Int.{bit_at}
use Rattle.cards.specs.declared.seat.Seat.{Seat}
use Rattle.cards.specs.Shuffle.{pack}

abbrev pub is_among : ℕ → ℕ → Bool
is_among cards c = bit_at cards c == 1

-- none of the cards was given before
abbrev pub AreFree : ℕ → List (Option Seat) → Type 0
AreFree cards given = (c : ℕ) → bit_at cards c ≡ 1 → slice_index_or given c None ≡ None

-- who has each card after them
unfoldable pub with_cards : ℕ → Seat → List (Option Seat) → List (Option Seat)
with_cards cards seat given =
    map (λ c. if is_among cards c then Some seat else slice_index_or given c None) pack
