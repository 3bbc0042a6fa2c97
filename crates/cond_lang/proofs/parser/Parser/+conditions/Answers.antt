use Rattle.std.proofs.lemmas.Grind.{common_steps}
use Rattle.std.proofs.Common.{◌≡◌, ◌∙◌, [], None, Some, Err, ap, arith, get_or, min, rules}
use Rattle.std.proofs.lemmas.Option.{slice_get_past}
use Rattle.std.proofs.lemmas.Result.{err_from_is_err_and}
use Rattle.conditions.specs.Limits.{parts_of}
use Rattle.cond_lang.specs.internal.Defining.{meanings}
use Rattle.cond_lang.specs.internal.Growing.{IsGrown, most_counted}
use Rattle.cond_lang.specs.Text.{kinds}
use Rattle.cond_lang.specs.internal.Reading.{behind, got, quantified_by, reading, with_choice_by}
use Rattle.cond_lang.proofs.Enough.{reads}
use Rattle.cond_lang.proofs.Growing.{same_rest, some_grown, used_err, used_ok}
use Rattle.cond_lang.proofs.Kept.{tree_at, at, count_at, condition_meaning, found, kept_of, no_fault, none_at, value_meaning}
use Rattle.cond_lang.proofs.parser.Parser.+conditions.Goals as goal

pub both-returns-in_err-left-clause-gives : goal.both-returns-in_err-left-clause-gives
both-returns-in_err-left-clause-gives t c = grind (arith, reads)

pub both-loop-self-init : goal.both-loop-self-init
both-loop-self-init t c = grind (arith, reads)

pub both-returns-in_err-right-clause-gives : goal.both-returns-in_err-right-clause-gives
both-returns-in_err-right-clause-gives t c = grind (arith, reads)

pub both-loop-self-preserved : goal.both-loop-self-preserved
both-loop-self-preserved t c = grind (arith, reads)

pub both-returns-clause-gives : goal.both-returns-clause-gives
both-returns-clause-gives t c = grind (arith, reads)

pub cond-returns-in_err-left-clause-gives : goal.cond-returns-in_err-left-clause-gives
cond-returns-in_err-left-clause-gives t c = grind (arith, reads)

pub cond-loop-self-init : goal.cond-loop-self-init
cond-loop-self-init t c = grind (arith, reads)

pub cond-returns-in_err-right-clause-gives : goal.cond-returns-in_err-right-clause-gives
cond-returns-in_err-right-clause-gives t c = grind (arith, reads)

pub cond-loop-self-preserved : goal.cond-loop-self-preserved
cond-loop-self-preserved t c = grind (arith, reads)

pub cond-returns-clause-gives : goal.cond-returns-clause-gives
cond-returns-clause-gives t c = grind (arith, reads)

pub unit-returns-in_err-inner-in-Some-Not-clause-gives : goal.unit-returns-in_err-inner-in-Some-Not-clause-gives
unit-returns-in_err-inner-in-Some-Not-clause-gives t c = grind (arith, reads)

pub unit-returns-in_err-inner-in-Some-Open-clause-gives : goal.unit-returns-in_err-inner-in-Some-Open-clause-gives
unit-returns-in_err-inner-in-Some-Open-clause-gives t c = grind (arith, reads)

pub unit-returns-in_err-close-in-Some-Open-clause-gives : goal.unit-returns-in_err-close-in-Some-Open-clause-gives
unit-returns-in_err-close-in-Some-Open-clause-gives t c = grind (arith, reads)

pub unit-returns-in_ok-inner-in-Some-Not-clause-gives : goal.unit-returns-in_ok-inner-in-Some-Not-clause-gives
unit-returns-in_ok-inner-in-Some-Not-clause-gives t c = grind (arith, reads)

pub unit-returns-in_ok-close-in-Some-Open-clause-gives : goal.unit-returns-in_ok-close-in-Some-Open-clause-gives
unit-returns-in_ok-close-in-Some-Open-clause-gives t c = grind (arith, reads)

pub unit-returns-in-Some-Quantifier-clause-gives : goal.unit-returns-in-Some-Quantifier-clause-gives
unit-returns-in-Some-Quantifier-clause-gives t c = grind (arith, reads)

pub unit-returns-in_default-clause-gives : goal.unit-returns-in_default-clause-gives
unit-returns-in_default-clause-gives t c = grind (arith, reads)

pub quantified-with_choice-requires : goal.quantified-with_choice-requires
quantified-with_choice-requires t c = grind (arith, common_steps)

pub quantified-returns-in_err-first-clause-shorter : goal.quantified-returns-in_err-first-clause-shorter
quantified-returns-in_err-first-clause-shorter t c = grind (arith, common_steps)

pub quantified-with_choice-requires-2 : goal.quantified-with_choice-requires-2
quantified-with_choice-requires-2 t c = grind (arith, common_steps)

pub quantified-returns-in_err-second-clause-shorter : goal.quantified-returns-in_err-second-clause-shorter
quantified-returns-in_err-second-clause-shorter t c = grind (arith, common_steps)

pub quantified-with_choice-requires-3 : goal.quantified-with_choice-requires-3
quantified-with_choice-requires-3 t c = grind (arith, common_steps)

pub quantified-returns-in_err-third-clause-shorter : goal.quantified-returns-in_err-third-clause-shorter
quantified-returns-in_err-third-clause-shorter t c = grind (arith, common_steps)

pub quantified-with_choice-requires-4 : goal.quantified-with_choice-requires-4
quantified-with_choice-requires-4 t c = grind (arith, common_steps)

pub quantified-returns-in_err-last-clause-shorter : goal.quantified-returns-in_err-last-clause-shorter
quantified-returns-in_err-last-clause-shorter t c = grind (arith, common_steps)

pub quantified-returns-in_default-clause-shorter : goal.quantified-returns-in_default-clause-shorter
quantified-returns-in_default-clause-shorter t c = grind (arith, common_steps)

pub quantified-returns-in_err-close-clause-shorter : goal.quantified-returns-in_err-close-clause-shorter
quantified-returns-in_err-close-clause-shorter t c = grind (arith, common_steps)

pub quantified-returns-clause-shorter : goal.quantified-returns-clause-shorter
quantified-returns-clause-shorter t c = grind (arith, common_steps)

pub with_choice-cond-requires : goal.with_choice-cond-requires
with_choice-cond-requires t c = grind (arith, common_steps)

pub with_choice-returns-in_err-tree-clause-shorter : goal.with_choice-returns-in_err-tree-clause-shorter
with_choice-returns-in_err-tree-clause-shorter t c = grind (arith, common_steps)

pub with_choice-returns-in_err-behind-clause-shorter : goal.with_choice-returns-in_err-behind-clause-shorter
with_choice-returns-in_err-behind-clause-shorter t c = grind (arith, common_steps)

pub with_choice-returns-clause-shorter : goal.with_choice-returns-clause-shorter
with_choice-returns-clause-shorter t c = grind (arith, common_steps)

pub quantified-returns-clause-gives : goal.quantified-returns-clause-gives
quantified-returns-clause-gives t c =
    let first = c.in_ok-first.ensures.gives None tt in
    let second = c.in_ok-second.ensures.gives first.0 first.1 in
    let third = c.in_ok-third.ensures.gives second.0 second.1 in
    let last = c.in_ok-last.ensures.gives third.0 third.1 in
    let found = some_grown c.args.room c.in_ok-last.last c.in-Some.tree last.0 c.in-Some.is last.1 in
    let read : quantified_by (reading (meanings c.args.names.now)) c.args.bound c.args.self.now ≡ got found.0 c.close.new.self = search rules in
    (found.0, found.1, read)

pub with_choice-returns-clause-gives : goal.with_choice-returns-clause-gives
with_choice-returns-clause-gives t c = λ before held.
    let tree = c.in_ok-tree.ensures.gives in
    let read : with_choice_by (reading (meanings c.args.names.now)) c.args.bound c.args.each.quantifier
    c.args.each.class (kinds c.args.start.now) c.args.choice before c.args.self.now
    ≡ got (Some (behind c.args.each.quantifier before tree.0)) c.cond.new.self = search rules in
    (Some (behind c.args.each.quantifier before tree.0), c.in_ok-behind.ensures.ok before tree.0 held (rw (← c.room_behind.ensures) tree.1), read)

pub tree_named-returns-in_default-clause-err : goal.tree_named-returns-in_default-clause-err
tree_named-returns-in_default-clause-err t c = λ p f e i same.
    let none = none_at c.args.names.now c.args.number (slice_get_past c.args.names.now c.args.number c.in_default.ensures.lookup.3) in
    cc

pub tree_named-returns-then-parts-room-clause-ok : goal.tree_named-returns-then-parts-room-clause-ok
tree_named-returns-then-parts-room-clause-ok t c = λ p f e i.
    let is = found c.args.names.now c.args.number c.in-Some.named.now c.in-Some.ensures.lookup.3.0 c.in-Some.ensures.lookup.1 in
    let h = tree_at c.args.names.now c.args.number c.in-Some.named.now p f c.args.choice c.requires is e i in
    let counted : get_or c.in-Some.named.now.parts c.place.result 0 ≡ min (parts_of (f c.args.choice)) most_counted =
    count_at c.in-Some.named.now.parts c.place.result _ _ c.place.ensures h.parts in
    record { parts = counted; tree = omega (arith, counted, c.if-parts-room.true) }

pub tree_named-cond-requires : goal.tree_named-cond-requires
tree_named-cond-requires t c =
    let is = found c.args.names.now c.args.number c.in-Some.named.now c.in-Some.ensures.lookup.3.0 c.in-Some.ensures.lookup.1 in
    let h = at [] c.args.names.now c.args.number c.in-Some.named.now c.requires is in
    let less = h.less in
    let before = h.before in
    grind (arith, common_steps, less, before)

pub tree_named-returns-clause-ok : goal.tree_named-returns-clause-ok
tree_named-returns-clause-ok t c = λ p f e i.
    let is = found c.args.names.now c.args.number c.in-Some.named.now c.in-Some.ensures.lookup.3.0 c.in-Some.ensures.lookup.1 in
    let h = tree_at c.args.names.now c.args.number c.in-Some.named.now p f c.args.choice c.requires is e i in
    kept_of (IsGrown c.args.room) c.cond.result c.cond.new.self h.left _ (f c.args.choice)
    (rw (c.new-parser.ensures, c.given.ensures) h.read) c.cond.ensures.gives

pub tree_named-returns-clause-err : goal.tree_named-returns-clause-err
tree_named-returns-clause-err t c = λ p f e i.
    let is = found c.args.names.now c.args.number c.in-Some.named.now c.in-Some.ensures.lookup.3.0 c.in-Some.ensures.lookup.1 in
    let h = tree_at c.args.names.now c.args.number c.in-Some.named.now p f c.args.choice c.requires is e i in
    no_fault (IsGrown c.args.room) c.cond.result c.cond.new.self h.left _ (f c.args.choice)
    (rw (c.new-parser.ensures, c.given.ensures) h.read) c.cond.ensures.gives

pub condition_used-returns-in_default-clause-gives : goal.condition_used-returns-in_default-clause-gives
condition_used-returns-in_default-clause-gives t c = λ rest sight.
    let none = none_at c.args.names.now c.args.number (slice_get_past c.args.names.now c.args.number c.in_default.ensures.lookup.3) in
    rw (none, ← sight) c.comparison.ensures.gives

pub condition_used-returns-then-named-clause-gives : goal.condition_used-returns-then-named-clause-gives
condition_used-returns-then-named-clause-gives t c = λ rest sight.
    let is = found c.args.names.now c.args.number c.in-Some.named.now c.in-Some.ensures.lookup.3.0 c.in-Some.ensures.lookup.1 in
    rw (value_meaning c.args.names.now c.args.number c.in-Some.named.now c.requires.sound is c.if-named.true, ← sight)
    c.comparison-then-named.ensures.gives

pub condition_used-returns-in_err-choice-clause-gives : goal.condition_used-returns-in_err-choice-clause-gives
condition_used-returns-in_err-choice-clause-gives t c = λ rest sight.
    let is = found c.args.names.now c.args.number c.in-Some.named.now c.in-Some.ensures.lookup.3.0 c.in-Some.ensures.lookup.1 in
    let means = condition_meaning c.args.names.now c.args.number c.in-Some.named.now c.requires.sound is c.if-named.false in
    let p = err_from_is_err_and c.from_residual.result c.from_residual.ensures.1 in
    let same = same_rest _ _ c.args.self.now c.advance.new.self rest c.advance.ensures.1 sight in
    rw means
    (used_err (IsGrown c.args.room) c.from_residual.result c.in_err-choice.field-0.0 c.args-2.new.self _ _ (p.1 ∙ ap (λ e. Err e) p.2)
    (rw (← same) c.in_err-choice.ensures.gives))

pub condition_used-returns-clause-gives : goal.condition_used-returns-clause-gives
condition_used-returns-clause-gives t c = λ rest sight.
    let is = found c.args.names.now c.args.number c.in-Some.named.now c.in-Some.ensures.lookup.3.0 c.in-Some.ensures.lookup.1 in
    let means = condition_meaning c.args.names.now c.args.number c.in-Some.named.now c.requires.sound is c.if-named.false in
    let same = same_rest _ _ c.args.self.now c.advance.new.self rest c.advance.ensures.1 sight in
    rw means
    (used_ok (IsGrown c.args.room) c.tree_named.result c.args-2.new.self _ c.in_ok-choice.choice _ (rw (← same) c.in_ok-choice.ensures.gives)
    (c.tree_named.ensures.ok _ _ means c.in_ok-choice.ensures.argument) (c.tree_named.ensures.err _ _ means c.in_ok-choice.ensures.argument))
