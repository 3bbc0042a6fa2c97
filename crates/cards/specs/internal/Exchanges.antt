-- What holds between two exchanges of Algorithm P.
use Rattle.std.specs.Prelude.{◌≡◌, ℕ, ◌<◌, List, slice_index}
use Rattle.std.specs.List.Sorted.{IsPermutation}
use Rattle.cards.specs.Shuffle.{traced, card_at, pack}

-- the cards while the exchanges for n + 1, .., 2 are to come: traced back through them, position i
-- leads to where its card is now
pub record IsTraced (places cards : List ℕ) (n : ℕ) : Type 0 where
  pub whole : IsPermutation pack cards
  pub card : (i : ℕ) → i < 52 → slice_index cards (traced places i n) ≡ card_at places i
