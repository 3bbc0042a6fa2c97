use Rattle.boards.proofs.Rotating.{partition}
use Rattle.boards.proofs.laws.boards_deal_partitions.Goals as goal

pub returns : goal.returns
returns c = partition
