use Rattle.std.proofs.Common.{◌≡◌, ◌∙◌, ap, inl, refl, subst, sym}
use Rattle.conditions.specs.declared.error.CondError.TheVariants.{Memory}
use Rattle.cond_lang.specs.After.{text_after, counted_from, start_after}
use Rattle.cond_lang.specs.Faults.{HasFault}
use Rattle.cond_lang.proofs.beside.parse_question_after.Goals as goal

pub returns-in_default-clause-refused : goal.returns-in_default-clause-refused
returns-in_default-clause-refused c = (Memory, tt, refl)

pub returns-in-Ok-ask_whole-clause-fault : goal.returns-in-Ok-ask_whole-clause-fault
returns-in-Ok-ask_whole-clause-fault c = λ e short h.
    let same : c.as_slice.result.now ≡ text_after c.args.definitions.now c.args.text.now = c.as_slice.ensures.value ∙ c.in-Ok.ensures in
    let no = c.in-Ok-ask_whole.ensures.fault e (subst (λ t. HasFault t e) (sym same) h) in
    absurd (cc)

pub returns-clause-fault : goal.returns-clause-fault
returns-clause-fault c = λ e short h.
    let same : c.as_slice.result.now ≡ text_after c.args.definitions.now c.args.text.now = c.as_slice.ensures.value ∙ c.in-Ok.ensures in
    let is = c.in-Err.ensures.fault e (subst (λ t. HasFault t e) (sym same) h) in
    let this : c.in-Err.error ≡ e = cc in
    inl (c.counted_from.ensures ∙ ap (counted_from (start_after c.args.definitions.now)) this)
