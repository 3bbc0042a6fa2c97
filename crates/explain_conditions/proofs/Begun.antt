-- A question begins where a condition does.
use Rattle.std.proofs.Common.{ℕ, List}
use Rattle.cond_lang.specs.Continuations.{IsBeginning}
use Rattle.cond_lang.specs.declared.scanner.Token.{Token}
use Rattle.cond_lang.proofs.Asking.{question_begins}
use Rattle.explain_conditions.specs.Asked.{Begins}
use Rattle.explain_conditions.specs.declared.asked.TextKind.{TextKind}
use Rattle.explain_conditions.specs.declared.asked.TextKind.TheVariants.{Condition, Question}

pub begins : (asked : TextKind) (text : List ℕ) (T : List Token) → IsBeginning text T → Begins asked text T
begins Condition text T b = b
begins Question text T b = question_begins text T b
