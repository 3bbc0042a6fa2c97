use Rattle.cards.proofs.Partitions.{positions_whole}
use Rattle.cards.proofs.laws.positions.Goals as goal

pub returns : goal.returns
returns c = positions_whole
