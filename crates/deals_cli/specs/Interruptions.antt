-- What is on the output of a wish that wasn't done to its end.
use Rattle.std.specs.Prelude.{◌≡◌, ◌⊎◌, ℕ, Bool, List, [], Err, IsSomeAnd, Option, Some, false, true}
use Rattle.cond_lang.specs.Form.{Form}
use Rattle.boards.specs.declared.cause.Cause.{Cause}
use Rattle.boards.specs.declared.cause.Cause.TheVariants.{Memory, Output}
use Rattle.input.specs.FourBytes.{EndsBefore}
use Rattle.input.specs.declared.numbers.fault.PickFault.{PickFault}
use Rattle.input.specs.declared.numbers.fault.PickFault.TheVariants as picks
use Rattle.sinks.specs.Appended.{AppendsPart}
use Rattle.jobs.specs.Counting.{IsAsked}
use Rattle.input.specs.declared.records.fault.RefusedRecord.{RefusedRecord}
use Rattle.input.specs.declared.records.shown.ShowFault.{ShowFault}
use Rattle.input.specs.declared.records.shown.ShowFault.TheVariants as shown
use Rattle.deals_cli.specs.Formats.{layout_in}
use Rattle.deals_cli.specs.Picked.{PicksAs}
use Rattle.deals_cli.specs.Shown.{FailsFirst, ShowsUnder}
use Rattle.jobs.specs.Makings.{AreWorkers, Means, heading_of, plan_of, title_of}
use Rattle.requests.specs.Requests.{Look, Questions, Search, Wish, count, draw, make}
use Rattle.requests.specs.Requests.{no_search, numbers_look, pick, show}
pub use Rattle.deals_cli.specs.Runs.{InterruptsRun}
use Rattle.deals_cli.specs.WithTricks.{BreaksTold, FailsTold, StopsAtLine}
use Rattle.deals_cli.specs.Wishes.{IsDrawn, seed_text, text_of}
use Rattle.jobs.specs.declared.failure.Failure.{Failure}
use Rattle.jobs.specs.declared.failure.Failure.TheVariants.{EndOfInput, Interrupted, Line, Record}
use Rattle.jobs.specs.declared.failure.Failure.TheVariants.{Input}
use Rattle.statistics.specs.Counting.{Subject, counting}
use Rattle.boards.specs.declared.style.TableStyle.{TableStyle}

-- the run of a `make` or a `find` was interrupted
pub record InterruptsMake (s : Search) (l : Look) (cause : Cause) (old new : Option (List ℕ))
    : Type 0 where
  pub form : Form
  pub means : Means s form
  pub workers : ℕ
  pub are_workers : AreWorkers s.workers workers
  pub run : InterruptsRun (layout_in l) (record (plan_of s l) { workers = workers }) form cause
      old new

-- the run of a `count` was interrupted: no board is written, and the table as far as it was
-- written
pub record InterruptsCount (s : Search) (questions : Questions) (style : TableStyle) (cause : Cause)
    (old new : Option (List ℕ)) : Type 0 where
  pub form : Form
  pub means : Means s form
  pub subject : Subject
  pub asked : IsAsked s.let_text questions subject
  pub workers : ℕ
  pub are_workers : AreWorkers s.workers workers
  pub run : InterruptsRun (counting style subject)
      (record (plan_of s numbers_look) { workers = workers }) form cause old new

-- picking ended with this fault
abbrev pub EndsPick : Search → Look → (tricks : Bool) → PickFault
    → (before after old new : Option (List ℕ)) → Type 0
EndsPick s l tricks fault before after old new =
    PicksAs {T = Unit {0}} tricks l.format l.show (title_of l) (plan_of s l) (Err fault)
    before after old new

-- showing ended with this fault
abbrev pub EndsShow : Look → ShowFault → (before after old new : Option (List ℕ)) → Type 0
EndsShow l fault before after old new =
    ShowsUnder l.format l.show (heading_of l) (Err fault) before after old new

-- a `make` with tricks was ended by this fault of its input
abbrev pub EndsTold : Search → Look → PickFault → (before after old new : Option (List ℕ)) → Type 0
EndsTold s l (picks.Refused line) before after old new =
    (form : Form) × Means s form × StopsAtLine s l form line before after old new
EndsTold s l picks.Input before after old new =
    (form : Form) × Means s form × FailsTold s l form before after old new
EndsTold s l picks.Output before after old new = ⊥

-- a wish was broken off for this cause: of a text that needs no run a proper prefix is written. The
-- output of a `pick`, a `show` or a `make` with tricks may also fail where it passes on what is
-- before a fault of its input; no other cause comes there
abbrev pub BreaksOff : Wish → Cause → (before after old new : Option (List ℕ)) → Type 0
BreaksOff (make s l false notices) cause before after old new = InterruptsMake s l cause old new
BreaksOff (make s l true notices) cause before after old new =
    ((form : Form) × Means s form × BreaksTold s l form cause before after old new)
    ⊎ ((cause ≡ Output) × ((fault : PickFault) × EndsTold s l fault before after old new))
BreaksOff draw cause before after old new =
    (new ≡ old)
    ⊎ ((bytes : List ℕ) × IsDrawn bytes before after × AppendsPart old new (seed_text bytes))
BreaksOff (count s questions style notices) cause before after old new =
    InterruptsCount s questions style cause old new
BreaksOff (pick seed hands l tricks hints) cause before after old new =
    (fault : PickFault) × EndsPick (no_search seed hands) l tricks fault before after old new
BreaksOff (show l hints) cause before after old new =
    FailsFirst before after old new
    ⊎ ((fault : ShowFault) × EndsShow l fault before after old new)
BreaksOff w cause before after old new = IsSomeAnd (text_of w) (AppendsPart old new)

-- a wish was ended by this fault of its input; of a `draw` nothing is written then, nor of a `show`
-- whose first read failed, which has no board
abbrev pub EndsFor : Wish → PickFault → (before after old new : Option (List ℕ)) → Type 0
EndsFor (pick seed hands l tricks hints) fault before after old new =
    EndsPick (no_search seed hands) l tricks fault before after old new
EndsFor (make s l true notices) fault before after old new =
    EndsTold s l fault before after old new
EndsFor (show l hints) picks.Input before after old new =
    FailsFirst before after old new ⊎ EndsShow l shown.Input before after old new
EndsFor draw picks.Input before after old new = new ≡ old
EndsFor w fault before after old new = ⊥

-- a `show` was ended by this line of its input
abbrev pub EndsAtRecord : Wish → RefusedRecord → (before after old new : Option (List ℕ)) → Type 0
EndsAtRecord (show l hints) line before after old new =
    EndsShow l (shown.Refused line) before after old new
EndsAtRecord w line before after old new = ⊥

-- what a wish leaves that fails so: nothing, unless it was broken off. `before` and `after` are
-- what the input had to give before and after it; it has ended too soon for a seed if it had fewer
-- than four bytes
abbrev pub LeavesFrom : Wish → Failure → (before after old new : Option (List ℕ)) → Type 0
LeavesFrom w (Interrupted Memory) before after old new = new ≡ old
LeavesFrom w (Interrupted cause) before after old new = BreaksOff w cause before after old new
LeavesFrom w (Line line) before after old new =
    EndsFor w (picks.Refused line) before after old new
LeavesFrom w (Record line) before after old new = EndsAtRecord w line before after old new
LeavesFrom w Input before after old new = EndsFor w picks.Input before after old new
LeavesFrom w EndOfInput before after old new = (new ≡ old) × EndsBefore 4 before after
LeavesFrom w failure before after old new = new ≡ old
