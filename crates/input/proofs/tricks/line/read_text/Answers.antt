use Rattle.std.proofs.Common.{◌≡◌, ◌∙◌, ◌+◌, ◌++◌, ◌∷◌, ◌==◌, ◌<◌, [], false, true, length, sym, rules, arith, length-append}
use Rattle.input.specs.NumberTexts.{is_blank}
use Rattle.input.proofs.PickSteps.{on_err, starts_with, text_blank, text_fails, text_more}
use Rattle.input.proofs.tricks.line.read_text.Goals as goal
use Rattle.input.proofs.tricks.line.read_text.Goals.{then-is_empty+then-is_blank, in-Some-2+in-Ok, then-is_empty+else-is_blank, else-is_empty}

pub returns-in_err-read_byte-clause-failed : goal.returns-in_err-read_byte-clause-failed
returns-in_err-read_byte-clause-failed g c =
    on_err c.from_residual.result _ (text_fails c.loop-turn.line.items (g.I.Source.rest c.args.input.now)
    (g.I.Source.rest c.loop-turn.input) (g.I.Source.rest c.read_byte.new.input) c.loop-turn.invariant.so_far
    c.in_err-read_byte.ensures.failed)

pub loop-turn-preserved : goal.loop-turn-preserved
loop-turn-preserved g c =
    let b = c.in-Some.byte in
    let line = c.loop-turn.line.items in
    let start = g.I.Source.rest c.args.input.now in
    let then_it = g.I.Source.rest c.loop-turn.input in
    let now = g.I.Source.rest c.read_byte.new.input in
    let h = c.loop-turn.invariant.so_far in
    let given = rw c.in-Some.is at c.in_ok-read_byte.ensures.given in
    let count = rw c.in-Some.is at c.in_ok-read_byte.ensures.count in
    let bound = c.in_ok-read_byte.ensures.bound in
    let before = c.loop-turn.invariant.given in
    let other : (b == 10) ≡ false = search rules in
    elim c.if-is_empty.branch [
      | then-is_empty+then-is_blank w ↦
          let empty : line ≡ [] = search rules in
          let same : c.if-is_empty.line.items ≡ [] = search rules in
          let blank : is_blank b ≡ true = sym w.is_blank.ensures ∙ w.if-is_blank.true in
          rw same record {
            few = omega arith;
            turn = omega (arith, count, before, bound);
            so_far = text_blank start then_it now b blank (rw empty at h) given;
            faults = search rules;
            given = omega (arith, count, before);
          }
      | in-Some-2+in-Ok w ↦
          let grown : c.if-is_empty.line.items ≡ line ++ b ∷ [] = search rules in
          let room : length line < 256 = search rules in
          let len : length (line ++ b ∷ []) ≡ length line + 1 = length-append line (b ∷ []) in
          let none : line ≡ [] → is_blank b ≡ false = λ e. elim w.if-is_empty.branch [
            | then-is_empty+else-is_blank v ↦ sym v.is_blank.ensures ∙ v.if-is_blank.false
            | else-is_empty v ↦ search rules
          ] in
          rw grown record {
            few = omega (arith, len, room);
            turn = omega (arith, count, before, bound);
            so_far = text_more line start then_it now b other (starts_with line b h.start none) h given;
            faults = search rules;
            given = omega (arith, count, before);
          }
    ]
