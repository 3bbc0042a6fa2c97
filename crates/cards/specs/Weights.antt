-- A weight for each card, by its number, and what a hand's cards weigh together.
use Rattle.std.specs.Prelude.{ℕ, Bool, cond, List, slice_index_or}
use Rattle.std.specs.List.{sum_by}
use Rattle.cards.specs.Hands.{holds_card}
use Rattle.cards.specs.Shuffle.{pack}

abbrev pub weighed : List ℕ → List Bool → ℕ
weighed weights hand =
    sum_by (λ c. cond (holds_card hand c) (slice_index_or weights c 0) 0) pack
