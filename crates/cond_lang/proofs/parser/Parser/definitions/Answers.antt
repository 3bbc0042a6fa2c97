use Rattle.std.proofs.lemmas.Grind.{common_steps}
use Rattle.std.proofs.Common.{◌∙◌, Some, ap, arith, length, sym}
use Rattle.cond_lang.proofs.Definitions.{definitions_let, definitions_end}
use Rattle.cond_lang.proofs.Kept.{next_names}
use Rattle.cond_lang.proofs.parser.Parser.definitions.Goals as goal

pub returns-in_err-named-clause-gives : goal.returns-in_err-named-clause-gives
returns-in_err-named-clause-gives c = grind (arith, common_steps, definitions_let)

pub loop-self-preserved : goal.loop-self-preserved
loop-self-preserved c =
    let next = next_names c.loop-self.names.items c.push.new.self.items c.as_slice.result.now c.in_ok-named.named _
    c.loop-self.self c.advance.new.self c.definition.new.self
    c.loop-self.invariant.0 c.as_slice.ensures.value c.in_ok-push.ensures.items c.in_ok-named.ensures.sound
    c.advance.ensures.1 (sym c.peek.ensures ∙ c.in-Some-Let.is ∙ ap (λ t. Some t) c.in-Some-Let.field-0-is) c.in_ok-named.ensures.gives in (
      next.0,
      (
        c.loop-self.invariant.1.0 ∙ next.1,
        omega (
          arith,
          ap length c.advance.ensures.1,
          c.in_ok-named.ensures.shorter,
          c.loop-self.invariant.1.1,
        ),
      ),
    )

pub returns-clause-gives : goal.returns-clause-gives
returns-clause-gives c = grind (arith, common_steps, definitions_end)
