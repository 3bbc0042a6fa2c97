use Rattle.deals_cli.proofs.Finding.{shards}
use Rattle.deals_cli.proofs.laws.shards_join.Goals as goal

pub returns : goal.returns
returns c plan form m n none all = shards plan form m n none all
