use Rattle.std.proofs.Common.{refl}
use Rattle.cards.proofs.AroundHands.{kept_of, next_of_kept, next_of_whole, west_dealt}
use Rattle.cards.proofs.around.Around.deal_west.Goals as goal

pub returns-then-is_whole : goal.returns-then-is_whole
returns-then-is_whole c =
    let k = kept_of _ c.args.self.now _ _ _ _ _ _ c.self.view_is c.self.invariant in
    west_dealt c.args.self.now _ _ _ _ _ _ 52 13 _ _ _ _ k
    (next_of_whole c.args.self.now k.fits (c.if-is_whole.ensures.0 refl)).0 c.settle.ensures.cards
    c.settle.ensures.settled

pub returns : goal.returns
returns c =
    let k = kept_of _ c.args.self.now _ _ _ _ _ _ c.self.view_is c.self.invariant in
    west_dealt c.args.self.now _ _ _ _ _ _ _ _ _ _ _ _ k (next_of_kept c.args.self.now _ _ _ _ _ _ k).0
    c.settle-2.ensures.cards c.settle-2.ensures.settled
