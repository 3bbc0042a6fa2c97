use Rattle.std.proofs.Common.{◌∙◌, ap, sym}
use Rattle.notations.specs.Formats.{PrintingAs}
use Rattle.notations.proofs.LayoutLemmas.{board_in}
use Rattle.notations.proofs.printer.AnyPrinterNotation.print.Goals as goal

pub returns-clause-text : goal.returns-clause-text
returns-clause-text c =
    let p = c.args.self.now in
    ap (λ (p : PrintingAs). p.text) c.print_plain.ensures
    ∙ sym (board_in p.format p.show p.heading p.tricks c.args.board.now)
