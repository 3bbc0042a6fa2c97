use Rattle.std.proofs.Common.{◌-◌, ◌*◌}
use Rattle.cards.specs.internal.Around.{AreCards, IsSettled}
use Rattle.cards.proofs.around.settle.Given as goal

abbrev pub invariant-loop-pair : goal.invariant-loop-pair
invariant-loop-pair l = record {
  cards : AreCards l.cards;
  settled : IsSettled l.initial.generator l.generator l.initial.cards l.cards l.mask (l.end - 2 * l.pair) l.end;
}
