use Rattle.std.proofs.Common.{◌∙◌, ◌++◌, sym, append_assoc, codes, decimal}
use Rattle.boards.specs.Reports.{goes_on_at}
use Rattle.boards.proofs.Saying.{as_text, goes_on, last_part, ok_as_text}
use Rattle.boards.proofs.report.put_next.Goals as goal

pub returns-clause-text : goal.returns-clause-text
returns-clause-text g c =
    let base = g.E.Sink.bytes c.args.err.now in
    let mid = g.E.Sink.bytes c.print.new.err in
    let new = g.E.Sink.bytes c.print-2.new.err in
    let x = codes "next: --first " ++ decimal c.args.first ++ codes " --first-board " in
    let y = decimal c.args.board ++ codes "\n" in
    last_part c.print-2.result base mid new x y (goes_on_at c.args.first c.args.board)
    (sym (append_assoc x (decimal c.args.board) (codes "\n"))
    ∙ goes_on c.args.first c.args.board c.if-first-eq-MAX_CANDIDATES.false c.if-board-gt-MAX_CANDIDATES.false)
    (as_text base mid _ x c.with.ensures c.in_ok-print.ensures.text)
    (ok_as_text c.print-2.result mid new _ y c.with-2.ensures c.print-2.ensures.text)
