-- Boards with their tricks, of which the input tells, a line for each. The candidates are found
-- first, and then a line is read as its board is to be written.
use Rattle.std.specs.Prelude.{◌≡◌, ℕ, List, [], Option, Some, Result, Ok, Err}
use Rattle.cond_lang.specs.Form.{Form}
use Rattle.notations.specs.Numbers.{numbers}
use Rattle.boards.specs.declared.cause.Cause.{Cause}
use Rattle.boards.specs.declared.cause.Cause.TheVariants.{Output}
use Rattle.input.specs.declared.numbers.fault.PickFault.{PickFault}
use Rattle.input.specs.declared.numbers.fault.PickFault.TheVariants as picks
use Rattle.input.specs.declared.refused_line.RefusedLine.{RefusedLine}
use Rattle.boards.specs.Text.{accepted}
use Rattle.jobs.specs.Makings.{AreWorkers, plan_of, title_of}
use Rattle.requests.specs.Requests.{Look, Search}
use Rattle.deals_cli.specs.Runs.{InterruptsRun}
use Rattle.input.specs.Told.{Tells, Written}

-- the boards are written so
abbrev pub look_of : Look → Written
look_of l = record { format = l.format; show = l.show; heading = title_of l }

-- the boards of the accepted candidates were told
abbrev pub TellsBoards : {T : Type 0} → Search → Look → Form → Result T PickFault
    → (before after old new : Option (List ℕ)) → Type 0
TellsBoards s l form result before after old new =
    Tells (look_of l) (plan_of s l) (accepted (plan_of s l) form) result before after old new

-- each board has a line, none is left over, and all was written
abbrev pub WritesTold : Search → Look → Form → (before after old new : Option (List ℕ)) → Type 0
WritesTold s l form before after old new =
    TellsBoards {T = Unit {0}} s l form (Ok tt) before after old new

-- a line is refused, or missing, or left over: the boards before it were written
abbrev pub StopsAtLine : Search → Look → Form → RefusedLine
    → (before after old new : Option (List ℕ)) → Type 0
StopsAtLine s l form line before after old new =
    TellsBoards {T = Unit {0}} s l form (Err (picks.Refused line)) before after old new

-- the input failed: the boards of the lines that were ended before were written
abbrev pub FailsTold : Search → Look → Form → (before after old new : Option (List ℕ)) → Type 0
FailsTold s l form before after old new =
    TellsBoards {T = Unit {0}} s l form (Err picks.Input) before after old new

-- the run that finds the candidates was interrupted: it had found these
pub record InterruptsFinding (s : Search) (l : Look) (form : Form) (cause : Cause) : Type 0 where
  pub found : List ℕ
  pub workers : ℕ
  pub are_workers : AreWorkers s.workers workers
  pub run : InterruptsRun numbers (record (plan_of s l) { workers = workers }) form cause
      (Some []) (Some found)

-- it was interrupted before anything was read or written, or the output failed
abbrev pub BreaksTold : Search → Look → Form → Cause
    → (before after old new : Option (List ℕ)) → Type 0
BreaksTold s l form Output before after old new =
    TellsBoards {T = Unit {0}} s l form (Err picks.Output) before after old new
BreaksTold s l form cause before after old new =
    (after ≡ before) × (new ≡ old) × InterruptsFinding s l form cause
