use Rattle.cond_lang.specs.Text.{kinds}
use Rattle.cond_lang.specs.internal.Defining.{meanings}
use Rattle.cond_lang.proofs.Counting.{CountedBelow}
use Rattle.cond_lang.proofs.parser.Parser.all_parts.Given as goal

abbrev pub invariant-loop-place : goal.invariant-loop-place
invariant-loop-place l = CountedBelow (meanings l.names) l.params l.is_value (kinds l.start) l.parts l.place
