use Rattle.cond_lang.specs.Text.{kinds}
use Rattle.cond_lang.specs.Definitions.{BeginsWith}
use Rattle.cond_lang.specs.internal.Defining.{meanings}
use Rattle.cond_lang.proofs.Kept.{found}
use Rattle.cond_lang.proofs.WholeDefinitions.{tells_given}
use Rattle.cond_lang.proofs.parser.lists.is_value_name.Goals as goal

pub returns-in-Some-clause-told : goal.returns-in-Some-clause-told
returns-in-Some-clause-told c =
    let begins : BeginsWith (meanings c.in-Ok.names.items) (kinds c.args.tokens.now) = rw (← c.new-parser.ensures) c.in-Ok.ensures.begins in
    let is = found c.deref.result.now c.args.name c.in-Some.named.now c.in-Some.ensures.lookup.3.0 c.in-Some.ensures.lookup.1 in
    tells_given (kinds c.args.tokens.now) c.in-Ok.names.items c.args.name c.in-Some.named.now c.in-Ok.ensures.sound
    begins (rw (← c.deref.ensures.value) is)
