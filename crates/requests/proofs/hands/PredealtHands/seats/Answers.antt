use Rattle.std.proofs.Common.{None, arith}
use Rattle.std.proofs.lemmas.List.{length-set}
use Rattle.std.proofs.lemmas.List.Edits.{fill_by_more}
use Rattle.requests.specs.PredealtHands.{fixed_of, given_by, seat_given}
use Rattle.requests.proofs.Chains.{all_seats}
use Rattle.requests.proofs.hands.PredealtHands.seats.Goals as goal

pub loop-card-preserved : goal.loop-card-preserved
loop-card-preserved c = record {
  each = rw c.seat_given.ensures
      (fill_by_more (seat_given (given_by c.args.self.now)) c.loop-card.seats c.loop-card.card None (omega arith) c.loop-card.invariant.each);
  count = simp length-set c.loop-card.invariant.count;
}

pub returns : goal.returns
unfolding fixed_of
returns c = all_seats (seat_given (given_by c.args.self.now)) _ (omega arith) (λ k h. c.loop-card.invariant.each k (omega arith))
