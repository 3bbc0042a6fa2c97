use Rattle.cards.proofs.MaskCounts.{honours_under_mask}
use Rattle.cards.proofs.masks.honours_of_mask.Goals as goal

pub returns : goal.returns
returns c = honours_under_mask c.args.honours c.args.cards c.honours_mask.result c.requires c.honours_mask.ensures
