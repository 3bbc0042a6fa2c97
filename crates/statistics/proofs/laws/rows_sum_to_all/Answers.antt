use Rattle.statistics.proofs.Adding.{rows_sum}
use Rattle.statistics.proofs.laws.rows_sum_to_all.Goals as goal

pub returns : goal.returns
returns c question deals = rows_sum question deals
