use Rattle.statistics.proofs.Shards.{adds_up}
use Rattle.statistics.proofs.laws.tables_add_up.Goals as goal

pub returns : goal.returns
returns c subject deals more m n = adds_up subject deals more m n
