use Rattle.cards.specs.Candidates.{state_before}
use Rattle.cards.proofs.AroundDeals.{around_is_partition}
use Rattle.cards.proofs.laws.around_is_a_partition.Goals as goal

pub returns : goal.returns
returns c fixed seed k = around_is_partition fixed (state_before seed k)
