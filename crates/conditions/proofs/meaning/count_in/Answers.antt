use Rattle.std.proofs.Common.{◌∙◌, sym, ap}
use Rattle.cards.specs.Counts.{total_of, total_in, ordered_of}
use Rattle.conditions.specs.Meaning.{count_in}
use Rattle.conditions.proofs.meaning.count_in.Goals as goal

pub returns-in-Total-clause-value : goal.returns-in-Total-clause-value
returns-in-Total-clause-value c =
    c.from.ensures ∙ c.total.ensures.value ∙ ap (total_of c.in-Total.measure) c.hand.ensures.value
    ∙ ap (λ v. count_in c.args.deal.now v) (sym c.in-Total.is)

pub returns-in-SuitTotal-clause-value : goal.returns-in-SuitTotal-clause-value
returns-in-SuitTotal-clause-value c =
    c.from-in-SuitTotal.ensures ∙ c.total_in.ensures.value
    ∙ ap (λ h. total_in c.in-SuitTotal.measure h c.in-SuitTotal.suit) c.hand-in-SuitTotal.ensures.value
    ∙ ap (λ v. count_in c.args.deal.now v) (sym c.in-SuitTotal.is)

pub returns-in-Ordered-clause-value : goal.returns-in-Ordered-clause-value
returns-in-Ordered-clause-value c =
    c.from-in-Ordered.ensures ∙ c.ordered.ensures ∙ ap (ordered_of c.in-Ordered.order) c.hand-in-Ordered.ensures.value
    ∙ ap (λ v. count_in c.args.deal.now v) (sym c.in-Ordered.is)
