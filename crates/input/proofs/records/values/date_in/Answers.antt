use Rattle.input.proofs.Labels.{date_made}
use Rattle.input.proofs.records.values.date_in.Goals as goal

pub returns : goal.returns
returns c = date_made c.args.value.now c.new.result c.new.ensures.sound c.new.ensures.kept
