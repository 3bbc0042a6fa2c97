use Rattle.std.proofs.Common.{◌+◌, subst}
use Rattle.boards.specs.Layouts.{SolvedLayout}
use Rattle.input.specs.Shown.{Puts, told_text}
use Rattle.input.proofs.Written.{puts_both}
use Rattle.input.proofs.records.shown.put_last.Goals as goal

pub returns-in-Ok-clause-bytes : goal.returns-in-Ok-clause-bytes
returns-in-Ok-clause-bytes g c =
    let layout = g.N.SolvedNotation.layout c.args.notation.now in
    let out = g.S.Sink.bytes c.put.new.sink in
    let new = g.S.Sink.bytes c.put_end.new.sink in
    let after = subst (λ (l : SolvedLayout). Puts c.put_end.result (c.args.boards + 1) out new l.footer)
    c.put.ensures.layout c.put_end.ensures.bytes in
    puts_both c.put_end.result (c.args.boards + 1) (told_text layout c.args.told.now) layout.footer
    (g.S.Sink.bytes c.args.sink.now) out new c.in-Ok.ensures.bytes after
