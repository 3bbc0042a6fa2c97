-- The letters of a set of ranks: bit 0 is the ace, bit 12 the two.
use Rattle.std.specs.Prelude.{◌≡◌, ℕ, ◌+◌, ◌<◌, ◌≤◌, ◌^◌, ◌==◌, Bool, List, []}
use Rattle.std.specs.Prelude.{◌++◌, length, take, map, codes, slice_index, slice_index_or}
use Rattle.std.specs.Int.{bit_at}
use Rattle.std.specs.List.{range_with_len}
use Rattle.cards.specs.declared.suit.Suit.TheVariants.{Spades}
use Rattle.boards.specs.Letters.{suit_letters}

-- which of the thirteen ranks are in the set, the ace first
unfoldable pub ranks_in : ℕ → List Bool
ranks_in set = map (λ rank. bit_at set rank == 1) (range_with_len 0 13)

-- the letters of these ranks, as those of a hand's first suit
abbrev pub set_letters : ℕ → List ℕ
set_letters set = suit_letters (ranks_in set) Spades

-- sixteen bytes: the letters of the ranks in the set, a dot, and at the end the number of letters
pub record IsEntry (set : ℕ) (bytes : List ℕ) : Type 0 where
  pub size : length bytes ≡ 16
  pub max : slice_index bytes 15 ≤ 13
  pub len : slice_index bytes 15 ≡ length (set_letters set)
  pub text : take (slice_index bytes 15 + 1) bytes ≡ set_letters set ++ codes "."

-- such bytes for each set
abbrev pub IsTable : List (List ℕ) → Type 0
IsTable entries = (set : ℕ) → set < 2 ^ 13 → IsEntry set (slice_index_or entries set [])
