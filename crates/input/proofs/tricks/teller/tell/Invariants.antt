use Rattle.std.proofs.Common.{◌≡◌, ◌<◌, ◌+◌, ◌^◌, All, length}
use Rattle.input.specs.Told.{IsReady, written_by}
use Rattle.input.specs.internal.Telling.{ToldFrom}
use Rattle.input.proofs.tricks.teller.tell.Given as goal

abbrev pub invariant-loop-number : goal.invariant-loop-number
invariant-loop-number g l = record {
  ready : IsReady l.printer;
  same : written_by l.printer ≡ written_by l.fn.printer;
  count : l.lines + length l.rest ≡ length l.numbers;
  below : All (λ k. k < 2 ^ 40) l.rest;
  told : ToldFrom (written_by l.fn.printer) l.plan l.numbers l.lines l.rest (g.I.Source.rest l.fn.input)
      (g.I.Source.rest l.input) (g.S.Sink.bytes l.fn.sink) (g.S.Sink.bytes l.sink);
  faults : g.S.Sink.faults l.sink ≡ g.S.Sink.faults l.fn.sink;
  input : g.I.Source.faults l.input ≡ g.I.Source.faults l.fn.input;
}

abbrev pub decreases-loop-number : goal.decreases-loop-number
decreases-loop-number g l = length l.rest
