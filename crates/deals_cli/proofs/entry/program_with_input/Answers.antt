use Rattle.std.proofs.Common.{sym, subst, map, string_bytes}
use Rattle.deals_cli.specs.Program.{IsStatusFor}
use Rattle.deals_cli.proofs.Concluding.{has_report, input_kept, nothing_written, one_of_seven, output_counted, text_at_zero, why, why_unasked}
use Rattle.deals_cli.proofs.entry.program_with_input.Goals as goal

pub returns-clause-text : goal.returns-clause-text
returns-clause-text g c w asks zero = text_at_zero _ _ w _ _ _ _ _ c.answer-ended.ensures.answers c.conclude.ensures.status asks zero

pub returns-clause-asked : goal.returns-clause-asked
returns-clause-asked g c = subst (IsStatusFor (map string_bytes c.args.words.now)) (sym c.conclude.ensures.status)
    c.answer-ended.ensures.answers.status

pub returns-clause-told : goal.returns-clause-told
returns-clause-told g c w asks failed = why _ _ w _ _ _ _ _ _ _ _ _ _ c.answer-ended.ensures.answers
    c.conclude.ensures.status c.answer-ended.ensures.input c.conclude.ensures.says asks failed

pub returns-clause-status : goal.returns-clause-status
returns-clause-status g c = one_of_seven _ _ c.conclude.ensures.status

pub returns-clause-untouched : goal.returns-clause-untouched
returns-clause-untouched g c among = nothing_written _ _ _ _ _ _ _ c.answer-ended.ensures.answers c.conclude.ensures.status among

pub returns-clause-output : goal.returns-clause-output
returns-clause-output g c = output_counted _ _ _ _ c.conclude.ensures.status c.answer-ended.ensures.faults

pub returns-clause-input : goal.returns-clause-input
returns-clause-input g c four seven = input_kept _ _ _ _ c.conclude.ensures.status c.answer-ended.ensures.input four seven

pub returns-clause-flushed : goal.returns-clause-flushed
returns-clause-flushed g c = rw c.conclude.ensures.status c.answer-ended.ensures.flushed

pub returns-clause-report : goal.returns-clause-report
returns-clause-report g c zero = has_report _ _ _ _ _ _ _ _ _ _ c.answer-ended.ensures.answers c.conclude.ensures.status c.conclude.ensures.says zero

pub returns-clause-told_unasked : goal.returns-clause-told_unasked
returns-clause-told_unasked g c none failed = why_unasked _ _ _ _ _ _ _ _ _ _ c.answer-ended.ensures.answers
    c.conclude.ensures.status c.conclude.ensures.says none failed
