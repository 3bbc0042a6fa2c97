use Rattle.std.proofs.Common.{◌&&◌}
use Rattle.std.proofs.lemmas.Bool.{and_parts}
use Rattle.boards.specs.TricksLines.{are_points, are_tricks, is_side}
use Rattle.boards.proofs.TricksTold.{par_told, points_length, side_length}
use Rattle.boards.proofs.tricks.Tricks.with_par.Goals as goal

pub invariant_of-result : goal.invariant_of-result
invariant_of-result c =
    rw (c.small.ensures, c.score_of.ensures, c.kept.ensures)
    (par_told c.args.tricks.now c.args.side.now c.args.points.now c.args.contract.now c.requires.par
    c.requires.contract)

pub small-requires : goal.small-requires
small-requires c = (and_parts (are_tricks c.args.tricks.now) (is_side c.args.side.now && are_points c.args.points.now) c.requires.par).0

pub score_of-requires : goal.score_of-requires
score_of-requires c =
    let both = and_parts (are_tricks c.args.tricks.now) (is_side c.args.side.now && are_points c.args.points.now) c.requires.par in
    let par = and_parts (is_side c.args.side.now) (are_points c.args.points.now) both.1 in
    record { side = side_length c.args.side.now par.0; points = points_length c.args.points.now par.1 }
