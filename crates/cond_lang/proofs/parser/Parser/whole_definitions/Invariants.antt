use Rattle.std.proofs.Common.{length}
use Rattle.cond_lang.proofs.WholeDefinitions.{Whole}
use Rattle.cond_lang.proofs.parser.Parser.whole_definitions.Given as goal

abbrev pub invariant-loop-self : goal.invariant-loop-self
invariant-loop-self l = Whole l.fn.self l.names.items l.self

abbrev pub decreases-loop-self : goal.decreases-loop-self
decreases-loop-self l = length l.self
