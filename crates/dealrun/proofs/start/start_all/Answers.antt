use Rattle.std.proofs.lemmas.Grind.{common_steps}
use Rattle.std.proofs.Common.{arith}
use Rattle.dealrun.proofs.start.start_all.Goals as goal

pub loop-assignment-preserved : goal.loop-assignment-preserved
loop-assignment-preserved g c = grind (arith, common_steps)

pub returns-in-None-start-clause-jobs : goal.returns-in-None-start-clause-jobs
returns-in-None-start-clause-jobs g c = grind (arith, common_steps)

pub returns-in-None-start-clause-rings : goal.returns-in-None-start-clause-rings
returns-in-None-start-clause-rings g c = grind (arith, common_steps)

pub returns-clause-jobs : goal.returns-clause-jobs
returns-clause-jobs g c = grind (arith, common_steps)

pub returns-clause-rings : goal.returns-clause-rings
returns-clause-rings g c = grind (arith, common_steps)
