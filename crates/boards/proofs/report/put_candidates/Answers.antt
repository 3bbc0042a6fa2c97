use Rattle.std.proofs.Common.{◌∙◌, ◌++◌, ◌+◌, ◌-◌, sym, append_assoc, codes, decimal}
use Rattle.boards.specs.Reports.{candidates_text}
use Rattle.boards.proofs.Saying.{as_text, last_part, ok_as_text, part, several}
use Rattle.boards.proofs.report.put_candidates.Goals as goal

pub returns-clause-text : goal.returns-clause-text
returns-clause-text g c =
    let n = decimal c.args.candidates ++ codes " candidates, numbers " in
    let first = decimal c.args.first in
    let last = decimal (c.args.first + c.args.candidates - 1) in
    let base = g.E.Sink.bytes c.args.err.now in
    let b1 = g.E.Sink.bytes c.print-2.new.err in
    let b2 = g.E.Sink.bytes c.print-3.new.err in
    let b3 = g.E.Sink.bytes c.print-4.new.err in
    let one = as_text base b1 _ n c.with-2.ensures c.in_ok-print.ensures.text in
    let two = as_text b1 b2 _ (first ++ codes " to ") c.with-3.ensures c.in_ok-print-2.ensures.text in
    let both = part base b1 b2 n (first ++ codes " to ") (n ++ first ++ codes " to ") (sym (append_assoc n first (codes " to "))) one two in
    last_part c.print-4.result base b2 b3 (n ++ first ++ codes " to ") (last ++ codes ",") (candidates_text c.args.first c.args.candidates)
    (sym (append_assoc (n ++ first ++ codes " to ") last (codes ","))
    ∙ several c.args.first c.args.candidates c.if-candidates-eq0.false c.if-candidates-eq1.false) both
    (ok_as_text c.print-4.result b2 b3 _ (last ++ codes ",") c.with-4.ensures c.print-4.ensures.text)
