-- The one sequence of candidates of a seed: candidate k is dealt by the 51 draws after the first 51
-- * k.
use Rattle.std.specs.Prelude.{ℕ, ◌*◌, List}
use Rattle.lcg48.specs.Sequence.{seeded_state, state_after}
use Rattle.cards.specs.declared.seat.Seat.{Seat}
use Rattle.cards.specs.Shuffle.{drawn_places}
use Rattle.cards.specs.Deals.{dealt}

-- the state before the first draw of candidate k
abbrev pub state_before : ℕ → ℕ → ℕ
state_before seed k = state_after (seeded_state seed) (51 * k)

-- the deal of candidate k
abbrev pub candidate : ℕ → ℕ → List Seat
candidate seed k = dealt (drawn_places (state_before seed k))
