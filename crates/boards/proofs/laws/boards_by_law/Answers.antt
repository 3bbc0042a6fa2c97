use Rattle.std.proofs.Common.{refl}
use Rattle.boards.specs.Settings.{board_in}
use Rattle.boards.proofs.laws.boards_by_law.Goals as goal

pub returns : goal.returns
unfolding board_in
returns c number candidate deal = refl
