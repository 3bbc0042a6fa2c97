use Rattle.std.proofs.Common.{refl}
use Rattle.boards.specs.Text.{boards_of, needed_by}
use Rattle.dealrun.proofs.laws.other_workers_write_the_same.Goals as goal

pub returns-clause-text_in : goal.returns-clause-text_in
unfolding boards_of needed_by
returns-clause-text_in c layout plan form W C = refl

pub returns-clause-text : goal.returns-clause-text
unfolding boards_of needed_by
returns-clause-text c plan form W C = refl
