-- The questions so far were told.
use Rattle.std.proofs.Common.{◌≡◌, ◌≤◌, List, length, take}
use Rattle.cards.specs.declared.seat.Seat.{Seat}
use Rattle.sinks.specs.Appended.{AppendsAll}
use Rattle.statistics.specs.Counting.{part_of}
use Rattle.statistics.specs.internal.Kept.{CountsEach, KeptOne}
use Rattle.statistics.proofs.Questions.{numbered}
use Rattle.statistics.proofs.each.Each.put_parts.Given as goal

abbrev pub invariant-loop-index : goal.invariant-loop-index
invariant-loop-index g l = record {
  items : l.one-items ≡ l.self.ones;
  bytes : (deals : List (List Seat)) → CountsEach l.self deals → AppendsAll (g.S.Sink.bytes l.initial.sink) (g.S.Sink.bytes l.sink)
      (numbered (λ p. part_of l.style deals (p.0, p.1.asked)) 1 (take l.index l.self.ones));
  faults : g.S.Sink.faults l.sink ≡ g.S.Sink.faults l.initial.sink;
  within : l.index ≤ length l.self.ones;
}
