use Rattle.std.proofs.Common.{◌∙◌, ◌&&◌, not, ap}
use Rattle.std.specs.Prelude.{nat_lt}
use Rattle.std.proofs.lemmas.Result.{IfOk-weaker}
use Rattle.conditions.specs.Form.{amount_of}
use Rattle.conditions.specs.Meaning.{is_related, value_in}
use Rattle.screens.proofs.Refuting.{alike, at_most, equal, less, one_is_enough}
use Rattle.screens.proofs.exclusion.Test.of_comparison.Goals as goal

pub returns-in_ok-more-in-Equal : goal.returns-in_ok-more-in-Equal
returns-in_ok-more-in-Equal c =
    let left = amount_of c.args.left.now in
    let right = amount_of c.args.right.now in
    IfOk-weaker c.either.result _ _
    (λ test joined. alike c.args.stage c.args.fixed.now (λ deal. not
    (nat_lt (value_in deal left) (value_in deal right)) && not
    (nat_lt (value_in deal right) (value_in deal left))) _ test
    (λ deal. ap (λ op. is_related op (value_in deal left) (value_in deal right)) c.in-Equal.is ∙ equal (value_in deal left) (value_in deal right))
    (one_is_enough c.args.stage c.args.fixed.now _ _ c.in_ok-less-in-Equal.less c.in_ok-more-in-Equal.more test
    c.in_ok-less-in-Equal.ensures c.in_ok-more-in-Equal.ensures joined)) c.either.ensures

pub returns-in-Less : goal.returns-in-Less
returns-in-Less c =
    let left = amount_of c.args.left.now in
    let right = amount_of c.args.right.now in
    IfOk-weaker c.outdone-in-Less.result _ _
    (λ test is_test. alike c.args.stage c.args.fixed.now _ _ test
    (λ deal. ap (λ op. is_related op (value_in deal left) (value_in deal right)) c.in-Less.is
    ∙ less (value_in deal left) (value_in deal right)) is_test) c.outdone-in-Less.ensures

pub returns-in-AtMost : goal.returns-in-AtMost
returns-in-AtMost c =
    let left = amount_of c.args.left.now in
    let right = amount_of c.args.right.now in
    IfOk-weaker c.outdone-in-AtMost.result _ _
    (λ test is_test. alike c.args.stage c.args.fixed.now _ _ test
    (λ deal. ap (λ op. is_related op (value_in deal left) (value_in deal right)) c.in-AtMost.is
    ∙ at_most (value_in deal left) (value_in deal right)) is_test) c.outdone-in-AtMost.ensures

pub returns-in-More : goal.returns-in-More
returns-in-More c =
    let left = amount_of c.args.left.now in
    let right = amount_of c.args.right.now in
    IfOk-weaker c.outdone-in-More.result _ _
    (λ test is_test. alike c.args.stage c.args.fixed.now _ _ test
    (λ deal. ap (λ op. is_related op (value_in deal left) (value_in deal right)) c.in-More.is
    ∙ less (value_in deal right) (value_in deal left)) is_test) c.outdone-in-More.ensures

pub returns-in-AtLeast : goal.returns-in-AtLeast
returns-in-AtLeast c =
    let left = amount_of c.args.left.now in
    let right = amount_of c.args.right.now in
    IfOk-weaker c.outdone-in-AtLeast.result _ _
    (λ test is_test. alike c.args.stage c.args.fixed.now _ _ test
    (λ deal. ap (λ op. is_related op (value_in deal left) (value_in deal right)) c.in-AtLeast.is
    ∙ at_most (value_in deal right) (value_in deal left)) is_test) c.outdone-in-AtLeast.ensures
