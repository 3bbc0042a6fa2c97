use Rattle.std.proofs.Common.{ap}
use Rattle.cards.proofs.Jumps.{past}
use Rattle.cards.proofs.candidates.Candidates.skip.Goals as goal

pub returns-clause-moved : goal.returns-clause-moved
returns-clause-moved c fixed seed k step at =
    past fixed seed k step c.args.self.now c.self.inside.start _ c.self.inside.stride 0 c.self.inside.around at
    (ap (λ v. v.state) c.self.view_is) (ap (λ v. v.stride) c.self.view_is) (ap (λ v. v.fixed) c.self.view_is)
    c.apply-self-inside.ensures
