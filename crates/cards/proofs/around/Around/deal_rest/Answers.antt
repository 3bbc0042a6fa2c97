use Rattle.std.proofs.Common.{◌∙◌}
use Rattle.cards.proofs.AroundHands.{dealt_without_east, dealt_without_north, kept_of}
use Rattle.cards.proofs.around.Around.deal_rest.Goals as goal

pub with_rest_to_east-requires : goal.with_rest_to_east-requires
with_rest_to_east-requires c =
    let k = kept_of _ c.args.self.now _ _ _ _ _ _ c.self.view_is c.self.invariant in
    (dealt_without_east c.args.self.now c.self.inside.north c.requires.0 _ _ _ _ k.fits k.north c.if-self-eq0.true c.requires.1).0

pub returns-then-self-eq0-clause-value : goal.returns-then-self-eq0-clause-value
returns-then-self-eq0-clause-value c x dealt =
    let k = kept_of _ c.args.self.now _ _ _ _ _ _ c.self.view_is c.self.invariant in
    c.with_rest_to_east.ensures.value ∙ (dealt_without_east c.args.self.now c.self.inside.north x _ _ _ _ k.fits k.north c.if-self-eq0.true dealt).1

pub with_rest_to_north-requires : goal.with_rest_to_north-requires
with_rest_to_north-requires c =
    let k = kept_of _ c.args.self.now _ _ _ _ _ _ c.self.view_is c.self.invariant in
    (dealt_without_north c.args.self.now c.requires.0 _ _ _ _ _ k.fits (c.deal_east-east.ensures c.requires.0 _ _ c.requires.1) c.requires.1).0

pub returns-clause-value : goal.returns-clause-value
returns-clause-value c x dealt =
    let k = kept_of _ c.args.self.now _ _ _ _ _ _ c.self.view_is c.self.invariant in
    c.with_rest_to_north.ensures.value ∙ (dealt_without_north c.args.self.now x _ _ _ _ _ k.fits (c.deal_east-east.ensures x _ _ dealt) dealt).1
