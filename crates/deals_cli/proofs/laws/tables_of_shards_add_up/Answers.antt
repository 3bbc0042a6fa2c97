use Rattle.deals_cli.proofs.Tables.{tables_add_up}
use Rattle.deals_cli.proofs.laws.tables_of_shards_add_up.Goals as goal

pub returns : goal.returns
returns c subject plan form m n none all = tables_add_up subject plan form m n none all
