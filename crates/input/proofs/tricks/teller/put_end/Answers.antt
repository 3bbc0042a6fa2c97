use Rattle.std.proofs.Common.{◌≡◌, [], refl}
use Rattle.notations.specs.Formats.{footer_of, layout_in}
use Rattle.input.proofs.tricks.teller.put_end.Goals as goal

pub returns-in-Ok-clause-bytes : goal.returns-in-Ok-clause-bytes
returns-in-Ok-clause-bytes g c =
    let p = c.args.printer.now in
    let foot : (layout_in p.format p.show p.heading p.tricks).footer [] c.args.boards ≡ footer_of p.format = rw c.requires.ready refl in
    rw foot at (c.in-Ok.ensures.bytes [] tt)

pub returns-in-Err-clause-bytes : goal.returns-in-Err-clause-bytes
returns-in-Err-clause-bytes g c =
    let p = c.args.printer.now in
    let foot : (layout_in p.format p.show p.heading p.tricks).footer [] c.args.boards ≡ footer_of p.format = rw c.requires.ready refl in
    (refl, rw foot at (c.in-Err.ensures.bytes [] tt))
