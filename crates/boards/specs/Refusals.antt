-- When there is no plan.
use Rattle.std.specs.Prelude.{ℕ, ◌+◌, ◌^◌, ◌||◌, ◌==◌, nat_lt, if◌then◌else◌}
use Rattle.boards.specs.declared.plan.PlanError.{PlanError}
use Rattle.boards.specs.declared.plan.PlanError.TheVariants.{Range, Workers, Capacity}

-- why there is no plan with these numbers, of which one is out of range
abbrev pub refusal_of : ℕ → ℕ → ℕ → PlanError
refusal_of first count workers =
    if nat_lt (2 ^ 40) (first + count) then Range
    else (if workers == 0 || nat_lt 16 workers then Workers else Capacity)
