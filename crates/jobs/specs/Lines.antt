-- The line that is said of a failure.
use Rattle.std.specs.Prelude.{ℕ, List, ◌++◌, codes, decimal, string_bytes}
use Rattle.cards.specs.declared.seat.Seat.{Seat}
use Rattle.cards.specs.declared.seat.Seat.TheVariants as seat
use Rattle.conditions.specs.declared.error.CondError.{CondError}
use Rattle.conditions.specs.declared.error.CondError.TheVariants as cond
use Rattle.boards.specs.declared.cause.Cause.{Cause}
use Rattle.boards.specs.declared.cause.Cause.TheVariants as cause
use Rattle.input.specs.declared.refused_line.LineFault.{LineFault}
use Rattle.input.specs.declared.refused_line.LineFault.TheVariants as fault
use Rattle.input.specs.declared.refused_line.RefusedLine.{RefusedLine}
use Rattle.boards.specs.declared.plan.PlanError.{PlanError}
use Rattle.boards.specs.declared.plan.PlanError.TheVariants as plan
use Rattle.jobs.specs.declared.failure.Failure.{Failure}
use Rattle.jobs.specs.declared.failure.Failure.TheVariants as failure
use Rattle.input.specs.declared.records.fault.RecordFault.{RecordFault}
use Rattle.input.specs.declared.records.fault.RecordFault.TheVariants as record_fault
use Rattle.input.specs.declared.records.fault.RefusedRecord.{RefusedRecord}
use Rattle.requests.specs.declared.names.QuestionName.{QuestionName}
use Rattle.requests.specs.declared.names.QuestionName.TheVariants.{Of, By}
use Rattle.requests.specs.declared.names.LabelName.{LabelName}
use Rattle.requests.specs.declared.names.LabelName.TheVariants as label

abbrev pub plan_line : PlanError → List ℕ
plan_line plan.Range = codes "plan refused: range\n"
plan_line plan.Workers = codes "plan refused: workers\n"
plan_line plan.Capacity = codes "plan refused: lane capacity\n"
plan_line plan.Boards = codes "plan refused: boards\n"
plan_line plan.FirstBoard = codes "plan refused: first board\n"

abbrev pub label_line : LabelName → List ℕ
label_line label.Event = codes "label refused: event\n"
label_line label.Site = codes "label refused: site\n"
label_line label.Date = codes "label refused: date\n"

abbrev pub hand_line : Seat → List ℕ
hand_line seat.North = codes "hand refused: north\n"
hand_line seat.East = codes "hand refused: east\n"
hand_line seat.South = codes "hand refused: south\n"
hand_line seat.West = codes "hand refused: west\n"

-- a text of the language is refused at a byte, counted from 0: how the line begins, and the lines
-- of one that is too long and of one of too many parts
abbrev pub text_line : (at_byte too_long too_many : List ℕ) → CondError → List ℕ
text_line at_byte too_long too_many cond.TooLong = too_long
text_line at_byte too_long too_many (cond.Byte at) =
    at_byte ++ decimal at ++ codes ": unexpected byte\n"
text_line at_byte too_long too_many (cond.Word at) =
    at_byte ++ decimal at ++ codes ": unknown word\n"
text_line at_byte too_long too_many (cond.Number at) =
    at_byte ++ decimal at ++ codes ": number too long\n"
text_line at_byte too_long too_many (cond.Syntax at) = at_byte ++ decimal at ++ codes ": syntax\n"
text_line at_byte too_long too_many cond.TooManyParts = too_many
text_line at_byte too_long too_many cond.Memory = codes "out of memory\n"

-- the last of these lines is never said, since definitions alone have no limit of parts
abbrev pub definitions_line : CondError → List ℕ
definitions_line =
    text_line (codes "let refused at byte ") (codes "let refused: longer than 4096 bytes\n")
    (codes "let refused: more than 16384 parts\n")

abbrev pub condition_line : CondError → List ℕ
condition_line =
    text_line (codes "condition refused at byte ")
    (codes "condition refused: longer than 1024 bytes\n")
    (codes "condition refused: more than 16384 parts\n")

abbrev pub cells_line : QuestionName → List ℕ
cells_line Of = codes "of refused: more than 1048576 cells\n"
cells_line By = codes "by refused: more than 1048576 cells\n"

abbrev pub question_line : QuestionName → CondError → List ℕ
question_line Of =
    text_line (codes "of refused at byte ") (codes "of refused: longer than 1024 bytes\n")
    (codes "of refused: more than 16384 parts\n")
question_line By =
    text_line (codes "by refused at byte ") (codes "by refused: longer than 1024 bytes\n")
    (codes "by refused: more than 16384 parts\n")

abbrev pub cause_line : Cause → List ℕ
cause_line cause.Memory = codes "out of memory\n"
cause_line cause.Spawn = codes "thread not started\n"
cause_line cause.Output = codes "output failed\n"
cause_line (cause.Stopped worker) = codes "worker " ++ decimal worker ++ codes " stopped\n"
cause_line (cause.Unclosed worker) = codes "worker " ++ decimal worker ++ codes " not closed\n"

abbrev pub fault_text : LineFault → List ℕ
fault_text fault.NotANumber = codes ": not a number\n"
fault_text fault.NotBelow = codes ": not below 1099511627776\n"
fault_text fault.TooMany = codes ": too many numbers\n"
fault_text fault.NotTricks = codes ": not tricks\n"
fault_text fault.Missing = codes ": missing\n"
fault_text fault.OtherDeal = codes ": tricks of another deal\n"
fault_text fault.MoreThanBoards = codes ": more than the boards\n"

-- a line of the input is refused, counted from 1
abbrev pub input_line : RefusedLine → List ℕ
input_line refused =
    codes "input refused at line " ++ decimal refused.line ++ fault_text refused.fault

abbrev pub record_fault_text : RecordFault → List ℕ
record_fault_text record_fault.NotADeal = codes ": not a deal\n"
record_fault_text record_fault.NotANumber = codes ": not a board's number\n"
record_fault_text record_fault.NotADealer = codes ": not a dealer\n"
record_fault_text record_fault.NotAVulnerability = codes ": not a vulnerability\n"
record_fault_text record_fault.NotATag = codes ": not a tag\n"
record_fault_text record_fault.TooLong = codes ": longer than 4096 bytes\n"

-- the same of a line of games
abbrev pub record_line : RefusedRecord → List ℕ
record_line refused =
    codes "input refused at line " ++ decimal refused.line ++ record_fault_text refused.fault

-- one line but for clap's texts
abbrev pub line_of : Failure → List ℕ
line_of (failure.CommandLine text) = string_bytes text
line_of (failure.Plan error) = plan_line error
line_of (failure.Label name) = label_line name
line_of (failure.Hand holder) = hand_line holder
line_of (failure.Definitions error) = definitions_line error
line_of (failure.Condition error) = condition_line error
line_of (failure.Question name error) = question_line name error
line_of (failure.Cells name) = cells_line name
line_of (failure.Interrupted cause) = cause_line cause
line_of (failure.Line refused) = input_line refused
line_of (failure.Record refused) = record_line refused
line_of failure.Input = codes "input failed\n"
line_of failure.EndOfInput = codes "input failed\n"
