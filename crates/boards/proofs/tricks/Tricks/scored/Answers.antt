use Rattle.boards.proofs.TricksTold.{scored_told}
use Rattle.boards.proofs.tricks.Tricks.scored.Goals as goal

pub invariant_of-result : goal.invariant_of-result
invariant_of-result c =
    rw (c.small.ensures, c.kept.ensures, c.kept-2.ensures)
    (scored_told c.args.tricks.now c.args.score.now c.args.contract.now c.requires.tricks c.requires.score)
