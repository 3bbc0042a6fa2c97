use Rattle.std.proofs.Common.{◌∙◌, ◌&&◌, ◌||◌, not, ap, sym}
use Rattle.std.proofs.lemmas.Result.{IfOk-weaker}
use Rattle.conditions.specs.Form.{form_of}
use Rattle.conditions.specs.Meaning.{holds}
use Rattle.screens.specs.internal.Exclusions.{has_truth}
use Rattle.screens.proofs.Refuting.{alike, each, neither, one_is_enough, truth_of_not}
use Rattle.screens.proofs.exclusion.Test.+of.Goals as goal

pub returns-in-Negation : goal.returns-in-Negation
returns-in-Negation t c =
    IfOk-weaker c.of-in-Negation.result _ _
    (λ test is_test. alike c.args.stage c.args.fixed.now _ _ test
    (λ deal. ap (λ tree. has_truth c.args.truth (holds (form_of tree) deal)) c.in-Negation.is
    ∙ truth_of_not c.args.truth (holds (form_of c.in-Negation.inner.value) deal)
    ∙ ap (λ tree. has_truth (not c.args.truth) (holds (form_of tree) deal)) (sym c.deref-in-Negation.ensures)) is_test) c.of-in-Negation.ensures

pub returns-else-truth : goal.returns-else-truth
returns-else-truth t c =
    let one = form_of c.deref.result.now in
    let other = form_of c.deref-in-AnyOf.result.now in
    IfOk-weaker c.either.result _ _
    (λ test joined. alike c.args.stage c.args.fixed.now (λ deal. has_truth c.args.truth (holds one deal) && has_truth
    c.args.truth (holds other deal)) _ test
    (λ deal. neither c.args.truth (holds (form_of c.args.tree.now) deal) (holds one deal) (holds other deal) c.if-truth.false
    (ap (λ tree. holds (form_of tree) deal) c.in-AnyOf.is
    ∙ ap (λ tree. holds (form_of tree) deal || holds (form_of c.in-AnyOf.right.value) deal) (sym c.deref.ensures)
    ∙ ap (λ tree. holds one deal || holds (form_of tree) deal) (sym c.deref-in-AnyOf.ensures)))
    (one_is_enough c.args.stage c.args.fixed.now _ _ c.in_ok-left-in-AnyOf.left c.in_ok-right-in-AnyOf.right test
    c.in_ok-left-in-AnyOf.ensures c.in_ok-right-in-AnyOf.ensures joined)) c.either.ensures

pub returns-then-truth-2 : goal.returns-then-truth-2
returns-then-truth-2 t c =
    let one = form_of c.deref-in-AllOf.result.now in
    let other = form_of c.deref-in-AllOf-2.result.now in
    IfOk-weaker c.either-then-truth-2.result _ _
    (λ test joined. alike c.args.stage c.args.fixed.now (λ deal. has_truth c.args.truth (holds one deal) && has_truth
    c.args.truth (holds other deal)) _ test
    (λ deal. each c.args.truth (holds (form_of c.args.tree.now) deal) (holds one deal) (holds other deal) c.if-truth-2.true
    (ap (λ tree. holds (form_of tree) deal) c.in-AllOf.is
    ∙ ap (λ tree. holds (form_of tree) deal && holds (form_of c.in-AllOf.right.value) deal) (sym c.deref-in-AllOf.ensures)
    ∙ ap (λ tree. holds one deal && holds (form_of tree) deal) (sym c.deref-in-AllOf-2.ensures)))
    (one_is_enough c.args.stage c.args.fixed.now _ _ c.in_ok-left-in-AllOf.left c.in_ok-right-in-AllOf.right test
    c.in_ok-left-in-AllOf.ensures c.in_ok-right-in-AllOf.ensures joined)) c.either-then-truth-2.ensures
