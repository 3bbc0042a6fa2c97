-- How a worker ends.
use Rattle.std.specs.Prelude.{◌≡◌, List, true}
use Rattle.lanes.specs.declared.verdict.Verdict.{Verdict}
use Rattle.lanes.specs.declared.worker.WorkEnd.{WorkEnd}
use Rattle.lanes.specs.declared.worker.WorkEnd.TheVariants.{Done, Stopped, Unclosed}
use Rattle.lanes.specs.Prefixes.{IsProperPrefix}
use Rattle.lanes.specs.Views.{Ring}

-- a worker that owed the verdicts `all` to the lane of this ring ended so; if it stopped, it raised
-- the stop flag before it closed the lane
abbrev pub Ends : List Verdict → Ring → WorkEnd → Type 0
Ends all ring (Done closed) = (closed.sent ≡ all) × (closed.ring ≡ ring)
Ends all ring (Stopped closed) = IsProperPrefix closed.sent all × (closed.ring ≡ ring)
    × (closed.is_short ≡ true)
Ends all ring Unclosed = Unit {0}
