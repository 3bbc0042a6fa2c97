use Rattle.std.proofs.Common.{◌++◌, refl}
use Rattle.boards.specs.Reports.{next_line, report_line}
use Rattle.boards.proofs.Saying.{last_part}
use Rattle.boards.proofs.report.Report.say.Goals as goal

pub returns-clause-text : goal.returns-clause-text
returns-clause-text g c =
    let s = c.args.self.now in
    let line = report_line s.plan s.candidates s.boards in
    let next = next_line s.format s.plan s.candidates s.boards in
    last_part c.say_next.result (g.E.Sink.bytes c.args.err.now) (g.E.Sink.bytes c.say_counts.new.err)
    (g.E.Sink.bytes c.say_next.new.err) line next (line ++ next) refl
    c.in_ok-say_counts.ensures.text c.say_next.ensures.text
