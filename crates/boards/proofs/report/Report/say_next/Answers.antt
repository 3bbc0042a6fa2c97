use Rattle.std.proofs.Common.{◌∙◌, ap, ap₂, ◌+◌}
use Rattle.boards.specs.Reports.{goes_on_at, goes_on_from, next_line}
use Rattle.boards.proofs.Saying.{next_board_line, next_candidate_line, ok_as_text}
use Rattle.boards.proofs.report.Report.say_next.Goals as goal

pub returns-then-numbers_boards-clause-text : goal.returns-then-numbers_boards-clause-text
returns-then-numbers_boards-clause-text g c =
    let s = c.args.self.now in
    ok_as_text c.put_next.result (g.E.Sink.bytes c.args.err.now) (g.E.Sink.bytes c.put_next.new.err) _
    (next_line s.format s.plan s.candidates s.boards)
    (ap₂ (λ first board. goes_on_at (first + s.candidates) (board + s.boards)) c.first.ensures.value c.first_board.ensures.value
    ∙ next_board_line s.format s.plan s.candidates s.boards c.if-numbers_boards.ensures) c.put_next.ensures.text

pub returns-else-numbers_boards-clause-text : goal.returns-else-numbers_boards-clause-text
returns-else-numbers_boards-clause-text g c =
    let s = c.args.self.now in
    ok_as_text c.put_next_candidate.result (g.E.Sink.bytes c.args.err.now)
    (g.E.Sink.bytes c.put_next_candidate.new.err) _ (next_line s.format s.plan s.candidates s.boards)
    (ap (λ first. goes_on_from (first + s.candidates)) c.first.ensures.value
    ∙ next_candidate_line s.format s.plan s.candidates s.boards c.if-numbers_boards.ensures) c.put_next_candidate.ensures.text
