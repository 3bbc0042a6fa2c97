use Rattle.std.proofs.Common.{◌∙◌, ap, subst, take}
use Rattle.std.specs.Prelude.{IsTrue, ◌↔◌}
use Rattle.conditions.specs.declared.limits.TheConstants.{MOST_PARTS}
use Rattle.cond_lang.specs.Text.{kinds}
use Rattle.cond_lang.specs.internal.Growing.{IsGrownValue}
use Rattle.cond_lang.proofs.Asking.{IsAValue, some_value}
use Rattle.cond_lang.proofs.Beginnings.{kinds_of_part}
use Rattle.cond_lang.proofs.beginning.Beginning.is_value.Goals as goal

pub returns-clause-value : goal.returns-clause-value
returns-clause-value c =
    let b = c.self.inside in
    let same =
    ap (λ xs. kinds (take b.count xs)) c.as_slice.ensures.value ∙ kinds_of_part b.tokens.items b.count ∙ c.self.view_is in
    subst (λ T. IsTrue c.is_some.result ↔ IsAValue T) same
    (some_value _ (IsGrownValue MOST_PARTS) c.in_ok-read_value.field-0 c.is_some.result c.is_some.ensures c.in_ok-read_value.ensures.value)
