use Rattle.std.proofs.Common.{◌∙◌, sym, ap, subst}
use Rattle.lcg48.specs.Sequence.{state_after}
use Rattle.cards.specs.Fixed.{dealt_around, free_count, places_for}
use Rattle.cards.specs.internal.Around.{draws_around}
use Rattle.cards.proofs.AroundHands.{AreRooms, whole_without_east, whole_without_north}
use Rattle.cards.proofs.around.Around.draw_by.Goals as goal

pub with_rest_to_east-requires : goal.with_rest_to_east-requires
with_rest_to_east-requires c = (whole_without_east _ _ _ _ _ _ _ _ _ _ _ _ _ _ _ _ _ _ c.self.invariant
    (subst (λ f. AreRooms f c.args.free c.args.east c.args.south c.args.west) (sym c.self.view_is)
    (record { free = c.requires.free; east = c.requires.east; south = c.requires.south; west = c.requires.west }))
    c.if-east_end-east.true c.settle.ensures.settled c.settle-2.ensures.settled).0

pub returns-then-east_end-east-clause-value : goal.returns-then-east_end-east-clause-value
returns-then-east_end-east-clause-value c =
    c.with_rest_to_east.ensures.value ∙ (whole_without_east _ _ _ _ _ _ _ _ _ _ _ _ _ _ _ _ _ _ c.self.invariant
    (subst (λ f. AreRooms f c.args.free c.args.east c.args.south c.args.west) (sym c.self.view_is)
    (record { free = c.requires.free; east = c.requires.east; south = c.requires.south; west = c.requires.west }))
    c.if-east_end-east.true c.settle.ensures.settled c.settle-2.ensures.settled).1
    ∙ ap (λ s. dealt_around s (places_for (free_count s) c.args.generator.now)) c.self.view_is

pub returns-then-east_end-east-clause-stepped : goal.returns-then-east_end-east-clause-stepped
returns-then-east_end-east-clause-stepped c =
    (whole_without_east _ _ _ _ _ _ _ _ _ _ _ _ _ _ _ _ _ _ c.self.invariant
    (subst (λ f. AreRooms f c.args.free c.args.east c.args.south c.args.west) (sym c.self.view_is)
    (record { free = c.requires.free; east = c.requires.east; south = c.requires.south; west = c.requires.west }))
    c.if-east_end-east.true c.settle.ensures.settled c.settle-2.ensures.settled).2
    ∙ ap (λ s. state_after c.args.generator.now (draws_around s)) c.self.view_is

pub with_rest_to_north-requires : goal.with_rest_to_north-requires
with_rest_to_north-requires c = (whole_without_north _ _ _ _ _ _ _ _ _ _ _ _ _ _ _ _ _ _ _ _ _ c.self.invariant
    (subst (λ f. AreRooms f c.args.free c.args.east c.args.south c.args.west) (sym c.self.view_is)
    (record { free = c.requires.free; east = c.requires.east; south = c.requires.south; west = c.requires.west }))
    c.if-east_end-east.false c.settle.ensures.settled c.settle-2.ensures.settled c.settle-3.ensures.settled).0

pub returns-clause-value : goal.returns-clause-value
returns-clause-value c =
    c.with_rest_to_north.ensures.value
    ∙ (whole_without_north _ _ _ _ _ _ _ _ _ _ _ _ _ _ _ _ _ _ _ _ _ c.self.invariant
    (subst (λ f. AreRooms f c.args.free c.args.east c.args.south c.args.west) (sym c.self.view_is)
    (record { free = c.requires.free; east = c.requires.east; south = c.requires.south; west = c.requires.west }))
    c.if-east_end-east.false c.settle.ensures.settled c.settle-2.ensures.settled c.settle-3.ensures.settled).1
    ∙ ap (λ s. dealt_around s (places_for (free_count s) c.args.generator.now)) c.self.view_is

pub returns-clause-stepped : goal.returns-clause-stepped
returns-clause-stepped c =
    (whole_without_north _ _ _ _ _ _ _ _ _ _ _ _ _ _ _ _ _ _ _ _ _ c.self.invariant
    (subst (λ f. AreRooms f c.args.free c.args.east c.args.south c.args.west) (sym c.self.view_is)
    (record { free = c.requires.free; east = c.requires.east; south = c.requires.south; west = c.requires.west }))
    c.if-east_end-east.false c.settle.ensures.settled c.settle-2.ensures.settled c.settle-3.ensures.settled).2
    ∙ ap (λ s. state_after c.args.generator.now (draws_around s)) c.self.view_is
