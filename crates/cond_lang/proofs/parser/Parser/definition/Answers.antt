use Rattle.std.proofs.lemmas.Grind.{common_steps}
use Rattle.std.proofs.Common.{arith}
use Rattle.cond_lang.proofs.Kept.{definition_is}
use Rattle.cond_lang.proofs.parser.Parser.definition.Goals as goal

pub returns-in_err-new_name-clause-gives : goal.returns-in_err-new_name-clause-gives
returns-in_err-new_name-clause-gives c = let is = definition_is c.args.names.now c.args.self.now in grind (arith, common_steps, is)

pub returns-in_err-params-clause-gives : goal.returns-in_err-params-clause-gives
returns-in_err-params-clause-gives c = let is = definition_is c.args.names.now c.args.self.now in grind (arith, common_steps, is)

pub returns-clause-gives : goal.returns-clause-gives
returns-clause-gives c = let is = definition_is c.args.names.now c.args.self.now in grind (arith, common_steps, is)
