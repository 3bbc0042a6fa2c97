use Rattle.std.proofs.Common.{refl}
use Rattle.cards.proofs.AroundHands.{kept_of, next_of_kept, next_of_whole, south_dealt}
use Rattle.cards.proofs.around.Around.deal_south.Goals as goal

pub returns-then-is_whole : goal.returns-then-is_whole
returns-then-is_whole c x west before =
    let k = kept_of _ c.args.self.now _ _ _ _ _ _ c.self.view_is c.self.invariant in
    south_dealt c.args.self.now _ _ _ _ _ _ 39 13 x _ _ _ _ west _ k
    (next_of_whole c.args.self.now k.fits (c.if-is_whole.ensures.0 refl)).1 c.settle.ensures.cards
    c.settle.ensures.settled before

pub returns : goal.returns
returns c x west before =
    let k = kept_of _ c.args.self.now _ _ _ _ _ _ c.self.view_is c.self.invariant in
    south_dealt c.args.self.now _ _ _ _ _ _ _ _ x _ _ _ _ west _ k (next_of_kept c.args.self.now _ _ _ _ _ _ k).1
    c.settle-2.ensures.cards c.settle-2.ensures.settled before
