use Rattle.std.proofs.Common.{◌∙◌, ap, arith, subst, sym}
use Rattle.cards.specs.Packed.{HasNumber, deal_in}
use Rattle.cards.proofs.PackedDeals.{deal_of_whole}
use Rattle.cards.proofs.packed.Packed.deal.Goals as goal

pub deal_source-requires-clause-number : goal.deal_source-requires-clause-number
deal_source-requires-clause-number c =
    subst (λ v. HasNumber v c.args.number) (sym c.self.view_is) c.requires

pub returns-then-self-lt-UNDEALT-clause-value : goal.returns-then-self-lt-UNDEALT-clause-value
returns-then-self-lt-UNDEALT-clause-value c =
    let p = c.self.inside in
    c.of_three_masks.ensures.value
    ∙ deal_of_whole p.first p.second p.third c.args.number c.args.self.now (omega arith) c.self.view_is

pub returns-clause-value : goal.returns-clause-value
returns-clause-value c =
    c.deal_source.ensures.value ∙ ap (λ v. deal_in v c.args.number) c.self.view_is
