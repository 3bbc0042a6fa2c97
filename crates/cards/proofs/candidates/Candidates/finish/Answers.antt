use Rattle.std.proofs.Common.{ap}
use Rattle.cards.proofs.Jumps.{stays}
use Rattle.cards.proofs.candidates.Candidates.finish.Goals as goal

pub returns-clause-moved : goal.returns-clause-moved
returns-clause-moved c fixed seed k step at =
    c.skip.ensures.moved fixed seed k step
    (stays fixed seed k step c.args.self.now _ _ 0 _ at (ap (λ v. v.state) c.self.view_is)
    (ap (λ v. v.stride) c.self.view_is) (ap (λ v. v.fixed) c.self.view_is))
