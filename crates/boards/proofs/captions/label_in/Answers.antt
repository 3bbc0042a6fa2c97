use Rattle.boards.proofs.Tested.{label_made}
use Rattle.boards.proofs.captions.label_in.Goals as goal

pub returns : goal.returns
returns c = label_made c.args.text.now c.new.result c.new.ensures.sound c.new.ensures.kept
