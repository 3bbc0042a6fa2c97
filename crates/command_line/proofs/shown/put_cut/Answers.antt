use Rattle.std.proofs.Common.{◌≤◌, arith, length, sym}
use Rattle.std.proofs.lemmas.List.{length-take-le}
use Rattle.command_line.proofs.shown.put_cut.Goals as goal

pub slice_bounds-part-end : goal.slice_bounds-part-end
slice_bounds-part-end c =
    let text = c.args.text.now in
    let long : 70 ≤ length text = omega (arith, c.if-text-le-WHOLE.false) in
    sym (length-take-le 70 text long)
