use Rattle.cond_lang.proofs.Asking.{is_value, no_value_stuck}
use Rattle.cond_lang.proofs.parser.lists.read_value.Goals as goal

pub returns-in-Ok-clause-value : goal.returns-in-Ok-clause-value
returns-in-Ok-clause-value c =
    let read = c.in-Ok.ensures.gives in
    (read.0, read.1, is_value c.args.tokens.now c.new-parser.result c.whole_value.new.self read.0 c.new-parser.ensures read.2)

pub returns-in-Err-Syntax-clause-value : goal.returns-in-Err-Syntax-clause-value
returns-in-Err-Syntax-clause-value c = λ a h.
    let g = rw c.in-Err-Syntax.field-0-is at c.in-Err-Syntax.ensures.gives in
    no_value_stuck c.args.tokens.now c.new-parser.result c.whole_value.new.self a c.new-parser.ensures g h
