use Rattle.std.proofs.Common.{ap, length, ◌∙◌, arith}
use Rattle.std.specs.List.{list_all}
use Rattle.std.specs.Str.{chars}
use Rattle.boards.specs.Captions.{is_printable}
use Rattle.boards.proofs.Tested.{caption_is}
use Rattle.boards.proofs.caption.is_caption.Goals as goal

pub returns-then-count-le-MAX_CAPTION_CHARS : goal.returns-then-count-le-MAX_CAPTION_CHARS
returns-then-count-le-MAX_CAPTION_CHARS c =
    let t = c.in-Ok.ensures.cases in
    let counted = c.count.ensures ∙ ap (λ s. length (chars s)) t.0 in
    c.are_printable.ensures ∙ ap (λ s. list_all is_printable (chars s)) t.0 ∙ caption_is c.args.text.now c.count.result t.1 counted (omega arith)
