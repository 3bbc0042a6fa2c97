use Rattle.cards.proofs.Partitions.{candidate_partition}
use Rattle.cards.proofs.laws.candidates.Goals as goal

pub returns : goal.returns
returns c = candidate_partition
