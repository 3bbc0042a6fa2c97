use Rattle.std.proofs.Common.{◌+◌, ◌*◌, false, ap, arith}
use Rattle.std.proofs.lemmas.List.{length-set}
use Rattle.std.proofs.lemmas.List.FromFn.{fill_by_all}
use Rattle.cards.specs.Hands.{holds_card}
use Rattle.cards.specs.Pack.{suit_number}
use Rattle.cards.proofs.MaskCounts.{held_bit, read_more}
use Rattle.cards.proofs.hand.Hand.ranks.Goals as goal

pub loop-rank-preserved : goal.loop-rank-preserved
loop-rank-preserved c = record {
  read = read_more (λ k. holds_card c.args.self.now (13 * suit_number c.args.suit + k)) c.loop-rank.ranks
      c.loop-rank.rank _ (omega arith) c.loop-rank.invariant.read
      (held_bit c.self.inside.cards _ _ c.args.self.now c.self.invariant c.self.view_is
      (ap (λ a. a + c.loop-rank.rank) c.first_card-first.ensures.value));
  count = simp length-set c.loop-rank.invariant.count;
}

pub returns : goal.returns
returns c = fill_by_all (λ k. holds_card c.args.self.now (13 * suit_number c.args.suit + k)) c.loop-rank.ranks 13
    false c.loop-rank.invariant.count (λ k h. c.loop-rank.invariant.read k (omega arith))
