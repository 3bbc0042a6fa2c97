use Rattle.notations.proofs.Solving.{plain_board, plain_footer, plain_header}
use Rattle.notations.proofs.laws.boards_without_tricks_are_plain.Goals as goal

pub returns-clause-header : goal.returns-clause-header
returns-clause-header c = plain_header

pub returns-clause-boards : goal.returns-clause-boards
returns-clause-boards c = plain_board

pub returns-clause-footer : goal.returns-clause-footer
returns-clause-footer c = plain_footer
