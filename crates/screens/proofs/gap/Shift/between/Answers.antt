use Rattle.screens.proofs.Shifts.{balanced}
use Rattle.screens.proofs.gap.Shift.between.Goals as goal

pub returns : goal.returns
returns c =
    balanced c.args.held.now c.args.taken.now c.args.other_held.now c.args.other_taken.now c.sums-opening.result c.sums-closing.result _
    c.sums-opening.ensures c.sums-closing.ensures c.in_ok-gain.ensures c.in_ok-loss.ensures
