use Rattle.std.proofs.Common.{◌≡◌, ℕ, ◌+◌, ◌<◌, List, length, get_or, drop, sym, ap, ◌∙◌, arith}
use Rattle.std.specs.Prelude.{not, ◌&&◌}
use Rattle.std.specs.List.{list_all}
use Rattle.std.specs.Str.{chars}
use Rattle.std.proofs.lemmas.Iterator.{YieldsList-from_chars}
use Rattle.std.proofs.lemmas.Iterator.Consumers.{YieldsList-turn, YieldsList-end}
use Rattle.std.proofs.lemmas.List.{at_drop_more, at_drop_all, length_push}
use Rattle.boards.specs.Captions.{is_printable}
use Rattle.boards.proofs.caption.are_printable.Goals as goal

next_of : (cs : List ℕ) (n c : ℕ) → (n < length cs) × (c ≡ get_or cs n c)
    → list_all is_printable (drop n cs) ≡ (is_printable c && list_all is_printable (drop (n + 1) cs))
next_of cs n c h = at_drop_more (list_all is_printable) cs n c h.0 ∙ ap (λ x. is_printable x && list_all is_printable (drop (n + 1) cs)) (sym h.1)

pub returns-then-is_control : goal.returns-then-is_control
returns-then-is_control c =
    let t = YieldsList-turn (YieldsList-from_chars c.args.text.now c.utf8.text cc) c.loop-letter.yielded _
    c.loop-letter.yielded_by _ _ c.in-Some.letter c.in-Some.is c.next.ensures.steps in
    let e = next_of _ _ _ t in
    ap (λ b. not b && list_all is_printable (drop (length c.loop-letter.yielded + 1) (chars c.args.text.now)))
    c.if-is_control.ensures ∙ sym e ∙ c.loop-letter.invariant

pub loop-letter-preserved : goal.loop-letter-preserved
loop-letter-preserved c =
    let t = YieldsList-turn (YieldsList-from_chars c.args.text.now c.utf8.text cc) c.loop-letter.yielded _
    c.loop-letter.yielded_by _ _ c.in-Some.letter c.in-Some.is c.next.ensures.steps in
    let e = next_of _ _ _ t in
    let n = length_push c.loop-letter.yielded c.in-Some.letter in
    ap (λ k. list_all is_printable (drop k (chars c.args.text.now))) n
    ∙ ap (λ b. not b && list_all is_printable (drop (length c.loop-letter.yielded + 1) (chars c.args.text.now))) c.if-is_control.ensures
    ∙ sym e ∙ c.loop-letter.invariant

pub returns : goal.returns
returns c =
    let t = YieldsList-end (YieldsList-from_chars c.args.text.now c.utf8.text cc) c.loop-letter.yielded _
    c.loop-letter.yielded_by _ _ c.in-None.is c.next.ensures.steps in
    sym (at_drop_all (list_all is_printable) (chars c.args.text.now) (length c.loop-letter.yielded) (omega (arith, t.1))) ∙ c.loop-letter.invariant
