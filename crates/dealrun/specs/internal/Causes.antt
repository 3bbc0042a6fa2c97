-- Why a run is interrupted: by what was written beside its workers, the least worker that was
-- stopped, and the least whose lane was not closed.
use Rattle.std.specs.Prelude.{ℕ, Option, None, Some}
use Rattle.boards.specs.declared.cause.Cause.{Cause}
use Rattle.boards.specs.declared.cause.Cause.TheVariants as cause
use Rattle.dealrun.specs.declared.join.Written.{Written}
use Rattle.dealrun.specs.declared.join.Written.TheVariants.{Failed, Full, Open}

abbrev pub cause_by : Written → Option ℕ → Option ℕ → Option Cause
cause_by Failed stopped unclosed = Some cause.Output
cause_by Full stopped None = None
cause_by Full stopped (Some w) = Some (cause.Unclosed w)
cause_by Open None None = None
cause_by Open None (Some w) = Some (cause.Unclosed w)
cause_by Open (Some w) unclosed = Some (cause.Stopped w)
