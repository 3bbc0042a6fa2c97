use Rattle.std.proofs.Common.{◌++◌, ◌∙◌, ap}
use Rattle.pbn_text.specs.Games.{deal_text}
use Rattle.pbn_text.proofs.Reading.{seats_from_deal}
use Rattle.pbn_text.proofs.reference.deal_text.Goals as goal

pub returns-clause-value : goal.returns-clause-value
returns-clause-value c =
    c.put_deal_text.ensures.items ∙ ap (λ xs. xs ++ deal_text c.args.deal.now) c.new-text.ensures

pub returns-clause-one_deal : goal.returns-clause-one_deal
returns-clause-one_deal c other count same =
    seats_from_deal other c.args.deal.now count c.put_deal_text.ensures.partition.count (same ∙ returns-clause-value c)
