-- What an option comes to that isn't given.
use Rattle.std.specs.Prelude.{◌^◌, ◌-◌, ℕ}
use Rattle.std.specs.Prelude.{Some, unwrap_or}
use Rattle.requests.specs.Requests.{Look, Search}
use Rattle.requests.specs.declared.workers.Workers.{Workers}
use Rattle.requests.specs.declared.workers.Workers.TheVariants.{Number, Auto}

-- how many candidates are tried: as many as are asked for, or all that there are from the first on
abbrev pub candidates_of : Search → ℕ
candidates_of s = unwrap_or s.candidates (2 ^ 40 - s.first)

-- the number of workers in a plan: 1 with `auto`, until the machine's cores are counted
abbrev pub workers_in : Workers → ℕ
workers_in (Number n) = n
workers_in Auto = 1

-- how many verdicts a lane holds, if that isn't given
abbrev pub usual_lane : Workers → ℕ
usual_lane (Number n) = 64
usual_lane Auto = 4096

abbrev pub lane_of : Search → ℕ
lane_of s = unwrap_or s.lane (usual_lane s.workers)

-- what the words of a `find` and of a `count` ask for: they write little or nothing before their
-- end, so that a worker may be far ahead of what was written
abbrev pub with_long_lanes : Search → Search
with_long_lanes s = record s { lane = Some (unwrap_or s.lane 4096) }

abbrev pub first_board_of : Look → ℕ
first_board_of l = unwrap_or l.first_board 1
