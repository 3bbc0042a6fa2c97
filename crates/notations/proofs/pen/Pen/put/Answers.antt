use Rattle.std.proofs.Common.{◌∙◌, ap, sym}
use Rattle.std.specs.Option.{option_copied}
use Rattle.pbn_text.specs.Games.{game_text}
use Rattle.notations.specs.Formats.{board_text}
use Rattle.notations.specs.Tricks.{or_nothing}
use Rattle.notations.specs.internal.Pens.{format_of}
use Rattle.notations.proofs.GameLemmas.{plain_game_in}
use Rattle.notations.proofs.pen.Pen.put.Goals as goal

pub returns-in-Games-clause-text : goal.returns-in-Games-clause-text
returns-in-Games-clause-text c =
    let show = c.args.show in
    let heading = c.args.heading.now in
    let tricks = or_nothing (option_copied c.args.tricks) in
    let board = c.args.board.now in
    let under = rw c.in-Games.is at c.requires.heading in
    let writes = rw c.in-Games.is at c.requires.writes in
    c.print.ensures.text
    ∙ ap (λ h. game_text h board) under
    ∙ sym (plain_game_in heading show tricks board writes.0 writes.1)
    ∙ ap (λ pen. board_text (format_of pen) show heading tricks board) (sym c.in-Games.is)
