-- Which verdicts a worker gives, and in which order, on a sequence of deals.
use Rattle.std.specs.Prelude.{ℕ, ◌+◌, ◌%◌, ◌==◌, List, map, filter, count_by}
use Rattle.std.specs.List.{range_with_len}
use Rattle.cards.specs.declared.seat.Seat.{Seat}
use Rattle.conditions.specs.Form.{Form}
use Rattle.conditions.specs.Meaning.{holds}
use Rattle.lanes.specs.declared.verdict.Verdict.{Verdict}

-- the verdict on candidate k
abbrev pub verdict_of : (ℕ → List Seat) → Form → ℕ → Verdict
verdict_of deals form k =
    record { number = k; accepted = holds form (deals k); deal = deals k }

-- the verdicts of worker w of W: those on candidates first + i, for each i below count with i % W
-- equal to w
unfoldable pub verdicts : (ℕ → List Seat) → ℕ → ℕ → Form → ℕ → ℕ → List Verdict
verdicts deals first count form W w =
    map (λ i. verdict_of deals form (first + i)) (filter (λ i. i % W == w) (range_with_len 0 count))

-- how many numbers i below m have i % W equal to w
unfoldable pub turns : ℕ → ℕ → ℕ → ℕ
turns W w m = count_by (λ i. i % W == w) (range_with_len 0 m)
