use Rattle.std.proofs.Common.{◌≡◌, ◌≢◌, ℕ, List, Option, Some}
use Rattle.boards.specs.Layouts.{Layout}
use Rattle.boards.specs.declared.board.Board.{Board}
use Rattle.dealrun.specs.internal.Writing.{GoesOn, KeepsLanes}
use Rattle.dealrun.proofs.writer.Writer.pass_rejected.Given as goal

abbrev pub invariant-loop-taken : goal.invariant-loop-taken
invariant-loop-taken l = record {
  plan : l.self.plan ≡ l.initial.self.plan;
  boards : l.self.progress.boards ≡ l.initial.self.progress.boards;
  taken : l.self.progress.taken ≡ l._taken;
  lanes : KeepsLanes l.initial.self.lanes.items l.self.lanes.items;
  wrote : (layout : Layout) (base bytes : Option (List ℕ)) (boards : List Board)
      → l.initial.self.plan.limit ≢ Some l.initial.self.progress.boards
      → GoesOn layout (λ printed. printed ≡ boards) l.initial.self base bytes
      → GoesOn layout (λ printed. printed ≡ boards) l.self base bytes;
}
