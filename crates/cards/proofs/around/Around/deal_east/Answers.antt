use Rattle.std.proofs.Common.{refl}
use Rattle.cards.proofs.AroundHands.{east_dealt, kept_of, next_of_kept, next_of_whole}
use Rattle.cards.proofs.around.Around.deal_east.Goals as goal

pub returns-then-is_whole : goal.returns-then-is_whole
returns-then-is_whole c x west south before =
    let k = kept_of _ c.args.self.now _ _ _ _ _ _ c.self.view_is c.self.invariant in
    east_dealt c.args.self.now _ _ _ _ _ _ 26 13 x _ _ _ _ west south _ k
    (next_of_whole c.args.self.now k.fits (c.if-is_whole.ensures.0 refl)).2 c.settle.ensures.settled before

pub returns : goal.returns
returns c x west south before =
    let k = kept_of _ c.args.self.now _ _ _ _ _ _ c.self.view_is c.self.invariant in
    east_dealt c.args.self.now _ _ _ _ _ _ _ _ x _ _ _ _ west south _ k (next_of_kept c.args.self.now _ _ _ _ _ _ k).2
    c.settle-2.ensures.settled before
