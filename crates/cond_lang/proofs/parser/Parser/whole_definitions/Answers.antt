use Rattle.std.proofs.lemmas.Grind.{common_steps}
use Rattle.std.proofs.Common.{◌≡◌, ◌∙◌, Some, ap, arith, sym}
use Rattle.cond_lang.specs.declared.scanner.Token.TheVariants.{Let}
use Rattle.cond_lang.specs.internal.Reading.{front}
use Rattle.cond_lang.proofs.WholeDefinitions.{none_yet, one_name_more, ends_there, breaks_there, all_begun}
use Rattle.cond_lang.proofs.parser.Parser.whole_definitions.Goals as goal

pub loop-self-init : goal.loop-self-init
loop-self-init c = none_yet _ c.new-names.result.items c.new-names.ensures.items

pub loop-self-preserved : goal.loop-self-preserved
loop-self-preserved c =
    one_name_more _ c.loop-self.names.items c.push.new.self.items c.as_slice.result.now c.in-Ok.named _
    c.loop-self.self c.advance.new.self c.definition.new.self
    c.loop-self.invariant c.as_slice.ensures.value c.in_ok-push-in-Ok.ensures.items c.in-Ok.ensures.sound
    c.advance.ensures.1 (sym c.peek.ensures ∙ c.in-Some-Let.is ∙ ap (λ t. Some t) c.in-Some-Let.field-0-is) c.in-Ok.ensures.gives

pub returns-in-Err-Syntax-clause-all : goal.returns-in-Err-Syntax-clause-all
returns-in-Err-Syntax-clause-all c =
    let g = rw c.in-Err-Syntax.field-0-is at c.in-Err-Syntax.ensures.gives in
    all_begun c.args.self.now c.loop-self.names.items c.loop-self.self c.loop-self.invariant
    (breaks_there c.loop-self.names.items c.as_slice.result.now _ c.loop-self.self c.advance.new.self
    c.definition.new.self c.as_slice.ensures.value c.advance.ensures.1 g)

pub returns-clause-all : goal.returns-clause-all
returns-clause-all c =
    let not_let : front c.loop-self.self ≡ Some Let → ⊥ = grind (arith, common_steps) in
    all_begun c.args.self.now c.loop-self.names.items c.loop-self.self c.loop-self.invariant
    (ends_there c.loop-self.names.items c.loop-self.self not_let)
