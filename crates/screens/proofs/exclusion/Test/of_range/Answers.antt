use Rattle.std.proofs.Common.{◌∙◌, ◌&&◌, not, ap}
use Rattle.std.specs.Prelude.{nat_le, nat_lt}
use Rattle.std.proofs.lemmas.Result.{IfOk-weaker}
use Rattle.conditions.specs.Form.{amount_of}
use Rattle.conditions.specs.Meaning.{value_in}
use Rattle.screens.specs.internal.Exclusions.{has_truth}
use Rattle.screens.proofs.Refuting.{alike, in_range, one_is_enough}
use Rattle.screens.proofs.exclusion.Test.of_range.Goals as goal

pub returns-then-truth : goal.returns-then-truth
returns-then-truth c =
    let value = amount_of c.args.value.now in
    IfOk-weaker c.either.result _ _
    (λ test joined. alike c.args.stage c.args.fixed.now (λ deal. not (nat_lt (value_in deal value) c.args.least) &&
    not (nat_lt c.args.most (value_in deal value))) _ test
    (λ deal. ap (λ truth. has_truth truth (nat_le c.args.least (value_in deal value) && nat_le (value_in deal value)
    c.args.most)) c.if-truth.true ∙ in_range c.args.least c.args.most (value_in deal value))
    (one_is_enough c.args.stage c.args.fixed.now _ _ c.in_ok-low.low c.in_ok-high.high test c.in_ok-low.ensures
    c.in_ok-high.ensures joined)) c.either.ensures
