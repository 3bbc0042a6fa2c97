use Rattle.std.proofs.lemmas.Grind.{common_steps}
use Rattle.std.proofs.Common.{◌≡◌, ◌∙◌, [], ap, arith, get_or, min, refl, Err}
use Rattle.std.proofs.lemmas.Option.{slice_get_past}
use Rattle.std.proofs.lemmas.Result.{err_from_is_err_and}
use Rattle.conditions.specs.Limits.{atoms_of}
use Rattle.cond_lang.specs.internal.Growing.{IsGrownValue, most_counted}
use Rattle.cond_lang.proofs.Enough.{reads}
use Rattle.cond_lang.proofs.Growing.{same_rest, used_err, used_ok}
use Rattle.cond_lang.proofs.Kept.{amount_at, at, count_at, condition_meaning, found, kept_of, no_fault, none_at, value_meaning}
use Rattle.cond_lang.proofs.parser.Parser.+values.Goals as goal

pub amount_named-returns-in_default-clause-err : goal.amount_named-returns-in_default-clause-err
amount_named-returns-in_default-clause-err t c = λ p f e i same.
    let none = none_at c.args.names.now c.args.number (slice_get_past c.args.names.now c.args.number c.in_default.ensures.lookup.3) in
    cc

pub amount_named-returns-then-parts-room-clause-ok : goal.amount_named-returns-then-parts-room-clause-ok
amount_named-returns-then-parts-room-clause-ok t c = λ p f e i.
    let is = found c.args.names.now c.args.number c.in-Some.named.now c.in-Some.ensures.lookup.3.0 c.in-Some.ensures.lookup.1 in
    let h = amount_at c.args.names.now c.args.number c.in-Some.named.now p f c.args.choice c.requires is e i in
    let counted : get_or c.in-Some.named.now.parts c.place.result 0 ≡ min (atoms_of (f c.args.choice)) most_counted =
    count_at c.in-Some.named.now.parts c.place.result _ _ c.place.ensures h.parts in
    record { parts = counted; value = omega (arith, counted, c.if-parts-room.true) }

pub amount_named-value-requires : goal.amount_named-value-requires
amount_named-value-requires t c =
    let is = found c.args.names.now c.args.number c.in-Some.named.now c.in-Some.ensures.lookup.3.0 c.in-Some.ensures.lookup.1 in
    let h = at [] c.args.names.now c.args.number c.in-Some.named.now c.requires is in
    let less = h.less in
    let before = h.before in
    grind (arith, common_steps, less, before)

pub amount_named-returns-clause-ok : goal.amount_named-returns-clause-ok
amount_named-returns-clause-ok t c = λ p f e i.
    let is = found c.args.names.now c.args.number c.in-Some.named.now c.in-Some.ensures.lookup.3.0 c.in-Some.ensures.lookup.1 in
    let h = amount_at c.args.names.now c.args.number c.in-Some.named.now p f c.args.choice c.requires is e i in
    kept_of (IsGrownValue c.args.room) c.value.result c.value.new.self h.left _ (f c.args.choice)
    (rw (c.new-parser.ensures, c.given.ensures) h.read) c.value.ensures.gives

pub amount_named-returns-clause-err : goal.amount_named-returns-clause-err
amount_named-returns-clause-err t c = λ p f e i.
    let is = found c.args.names.now c.args.number c.in-Some.named.now c.in-Some.ensures.lookup.3.0 c.in-Some.ensures.lookup.1 in
    let h = amount_at c.args.names.now c.args.number c.in-Some.named.now p f c.args.choice c.requires is e i in
    no_fault (IsGrownValue c.args.room) c.value.result c.value.new.self h.left _ (f c.args.choice)
    (rw (c.new-parser.ensures, c.given.ensures) h.read) c.value.ensures.gives

pub value_used-returns-in_default-clause-gives : goal.value_used-returns-in_default-clause-gives
value_used-returns-in_default-clause-gives t c = λ rest sight.
    let none = none_at c.args.names.now c.args.number (slice_get_past c.args.names.now c.args.number c.in_default.ensures.lookup.3) in
    rw (none, sight) refl

pub value_used-returns-then-not-named-clause-gives : goal.value_used-returns-then-not-named-clause-gives
value_used-returns-then-not-named-clause-gives t c = λ rest sight.
    let is = found c.args.names.now c.args.number c.in-Some.named.now c.in-Some.ensures.lookup.3.0 c.in-Some.ensures.lookup.1 in
    rw (condition_meaning c.args.names.now c.args.number c.in-Some.named.now c.requires.sound is c.if-not-named.true, sight) refl

pub value_used-returns-in_err-choice-clause-gives : goal.value_used-returns-in_err-choice-clause-gives
value_used-returns-in_err-choice-clause-gives t c = λ rest sight.
    let is = found c.args.names.now c.args.number c.in-Some.named.now c.in-Some.ensures.lookup.3.0 c.in-Some.ensures.lookup.1 in
    let means = value_meaning c.args.names.now c.args.number c.in-Some.named.now c.requires.sound is c.if-not-named.false in
    let p = err_from_is_err_and c.from_residual.result c.from_residual.ensures.1 in
    let same = same_rest _ _ c.args.self.now c.advance.new.self rest c.advance.ensures.1 sight in
    rw means
    (used_err (IsGrownValue c.args.room) c.from_residual.result c.in_err-choice.field-0.0 c.args-2.new.self _ _ (p.1 ∙ ap (λ e. Err e) p.2)
    (rw (← same) c.in_err-choice.ensures.gives))

pub value_used-returns-clause-gives : goal.value_used-returns-clause-gives
value_used-returns-clause-gives t c = λ rest sight.
    let is = found c.args.names.now c.args.number c.in-Some.named.now c.in-Some.ensures.lookup.3.0 c.in-Some.ensures.lookup.1 in
    let means = value_meaning c.args.names.now c.args.number c.in-Some.named.now c.requires.sound is c.if-not-named.false in
    let same = same_rest _ _ c.args.self.now c.advance.new.self rest c.advance.ensures.1 sight in
    rw means
    (used_ok (IsGrownValue c.args.room) c.amount_named.result c.args-2.new.self _ c.in_ok-choice.choice _ (rw (← same) c.in_ok-choice.ensures.gives)
    (c.amount_named.ensures.ok _ _ means c.in_ok-choice.ensures.argument) (c.amount_named.ensures.err _ _ means c.in_ok-choice.ensures.argument))

pub value-returns-in_err-left-clause-gives : goal.value-returns-in_err-left-clause-gives
value-returns-in_err-left-clause-gives t c = grind (arith, reads)

pub value-loop-self-init : goal.value-loop-self-init
value-loop-self-init t c = grind (arith, reads)

pub value-returns-in_err-right-clause-gives : goal.value-returns-in_err-right-clause-gives
value-returns-in_err-right-clause-gives t c = grind (arith, reads)

pub value-loop-self-preserved : goal.value-loop-self-preserved
value-loop-self-preserved t c = grind (arith, reads)

pub value-returns-clause-gives : goal.value-returns-clause-gives
value-returns-clause-gives t c = grind (arith, reads)
