use Rattle.cards.specs.Candidates.{state_before}
use Rattle.cards.specs.Fixed.{IsFixed}
use Rattle.cards.proofs.AroundDeals.{around_is_partition}
use Rattle.cards.proofs.AroundLaws.{fixed_stay}
use Rattle.std.proofs.Common.{subst, sym}
use Rattle.boards.specs.Plans.{candidate_of}
use Rattle.screens.specs.Completions.{Keeps}
use Rattle.deals_cli.proofs.written.write_plan.Goals as goal

pub returns-then-is_never-clause-ends : goal.returns-then-is_never-clause-ends
returns-then-is_never-clause-ends g c =
    let plan = c.args.plan.now in
    let fits : IsFixed plan.fixed = c.fixed.ensures.fixed in
    c.write_no_board.ensures.ends c.args.condition
    (λ k. c.is_never.ensures.sound c.if-is_never.true (candidate_of plan k)
    (subst (λ fixed. Keeps fixed (candidate_of plan k)) (sym c.fixed.ensures.value)
    (record {
      partition = around_is_partition plan.fixed (state_before plan.seed k) fits;
      fixed_stay = λ card seat at. fixed_stay plan.fixed plan.seed k card seat fits at;
    })))
