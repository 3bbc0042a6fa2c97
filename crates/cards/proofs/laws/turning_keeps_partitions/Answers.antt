use Rattle.cards.proofs.Turning.{partition_kept}
use Rattle.cards.proofs.laws.turning_keeps_partitions.Goals as goal

pub returns : goal.returns
returns c = partition_kept
