use Rattle.std.proofs.Common.{◌≡◌, All, arith, refl, rules}
use Rattle.std.proofs.lemmas.List.Elements.{All-get_or}
use Rattle.screens.proofs.Shifts.{none_weighs, all_weigh}
use Rattle.screens.proofs.gap.surplus.Goals as goal

pub returns-then-all : goal.returns-then-all
returns-then-all c =
    let zeros : All (λ w. w ≡ 0) c.differences-weights.result = search rules in
    none_weighs c.args.left.now c.args.right.now c.differences-weights.result c.differences-weights.ensures
    (λ card h. All-get_or (λ w. w ≡ 0) c.differences-weights.result card 0 (omega arith) zeros)

pub returns-in-Some : goal.returns-in-Some
returns-in-Some c hand =
    rw c.in-Some.ensures.kept (all_weigh c.args.left.now c.args.right.now c.differences-weights.result
    c.differences-weights.ensures (omega arith) (c.in-Some.ensures.light.0 refl) hand)
