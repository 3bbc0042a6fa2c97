use Rattle.std.proofs.Common.{◌↔◌, ◌∙◌, ap, arith, sym, subst}
use Rattle.std.specs.Prelude.{IsTrue}
use Rattle.cards.specs.Hands.{shape_of, is_balanced}
use Rattle.cards.specs.Balanced.{IsBalanced}
use Rattle.cards.proofs.Balance.{balanced_by_sorting, balanced_is}
use Rattle.cards.proofs.hand.Hand.balanced.Goals as goal

pub returns-clause-value : goal.returns-clause-value
returns-clause-value c =
    balanced_by_sorting c.shape-shape.result c.sort_unstable.new.self c.is_balanced_in_order.result
    (omega (arith, c.sort_unstable.ensures.len)) c.sort_unstable.ensures.permutation
    c.sort_unstable.ensures.sorted c.is_balanced_in_order.ensures
    ∙ ap is_balanced c.shape-shape.ensures

pub returns-clause-shapes : goal.returns-clause-shapes
returns-clause-shapes c = subst (λ b. IsTrue b ↔ IsBalanced (shape_of c.args.self.now)) (sym (returns-clause-value c))
    (balanced_is (shape_of c.args.self.now))
