use Rattle.std.proofs.Common.{◌≡◌, ◌∙◌, ap, sym}
use Rattle.boards.specs.TricksLines.{TricksView, nothing_known}
use Rattle.notations.specs.Formats.{PrintingAs, SolvingAs, beside_hands, board_text}
use Rattle.notations.proofs.Solving.{beside_none, none_told, not_some}
use Rattle.notations.proofs.solved.SolvedPrinterSolvedNotation.print.Goals as goal

pub returns-else-self-clause-text : goal.returns-else-self-clause-text
returns-else-self-clause-text c =
    let none : c.args.tricks.now ≡ nothing_known = none_told c.args.tricks.now c.digits.ensures.told
    (not_some c.args.tricks.now c.digits.result.now c.is_empty.result c.digits.ensures.value c.is_empty.ensures
    c.if-self.false) in
    let inside = c.self.inside in
    let board = c.args.board.now in
    let text = ap (λ (p : PrintingAs). p.text) c.print_plain.ensures in
    rw c.if-self.false
    (text
    ∙ ap (λ (t : TricksView). board_text inside.plain.format inside.plain.show inside.plain.heading t board)
    (sym (beside_none inside.plain.show.seats))
    ∙ ap (λ (t : TricksView). board_text inside.plain.format inside.plain.show inside.plain.heading
    (beside_hands inside.plain.show t) board) (sym none)
    ∙ ap (λ (p : SolvingAs). board_text p.format p.show p.heading (beside_hands p.show c.args.tricks.now) board) c.self.view_is)
