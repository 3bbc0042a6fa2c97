use Rattle.std.proofs.Common.{◌∙◌, ap}
use Rattle.pbn_text.specs.Games.{game_text}
use Rattle.pbn_text.specs.internal.Games.{game_by_law}
use Rattle.pbn_text.proofs.Reading.{deal_from_game}
use Rattle.pbn_text.proofs.reference.game.Goals as goal

pub returns-clause-value : goal.returns-clause-value
returns-clause-value c =
    c.print_game.ensures.value ∙ ap (game_text c.args.heading.now) c.by_law.ensures ∙ game_by_law c.args.heading.now c.args.board 0 c.args.deal.now

pub returns-clause-one_deal : goal.returns-clause-one_deal
returns-clause-one_deal c other count same =
    let board = c.by_law.ensures in
    deal_from_game c.args.board c.args.heading.now other c.args.deal.now count
    (rw board at c.print_game.ensures.partition.count) (same ∙ returns-clause-value c)
