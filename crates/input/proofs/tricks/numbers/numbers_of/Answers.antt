use Rattle.std.proofs.Common.{◌≡◌, ◌∙◌, ◌+◌, ◌++◌, ◌∷◌, [], take, drop, get_or, sym, ap, arith, subst}
use Rattle.std.proofs.lemmas.List.{append-nil, take_all, take_more}
use Rattle.input.specs.NumberTexts.{Said, said}
use Rattle.input.specs.Scans.{HasScanned}
use Rattle.input.proofs.Pieces.{cut_at}
use Rattle.input.proofs.tricks.numbers.numbers_of.Goals as goal

pub returns-in-Err : goal.returns-in-Err
returns-in-Err c =
    let i = c.loop-byte.byte-index in
    let text = c.args.text.now in
    let whole : take i text ++ (get_or text i 0 ∷ (drop (i + 1) text ++ [])) ≡ text = cut_at [] text [] i c.loop-byte-test.true ∙ append-nil text in
    let is = c.in-Err.ensures.refused (take i text) c.loop-byte.numbers.items c.loop-byte.invariant.scanned (drop (i + 1) text ++ []) in
    sym (ap (λ (s : Said). s.numbers) (ap said (sym whole) ∙ is))

pub loop-byte-preserved : goal.loop-byte-preserved
loop-byte-preserved c =
    let i = c.loop-byte.byte-index in
    let text = c.args.text.now in
    let more : take (i + 1) text ≡ take i text ++ get_or text i 0 ∷ [] = take_more text i 0 c.loop-byte-test.true in
    let scanned = c.in-Ok.ensures.scanned (take i text) c.loop-byte.numbers.items c.loop-byte.invariant.scanned in
    let lines = c.in-Ok.ensures.lines in
    let before = c.loop-byte.invariant.lines in
    record {
      scanned = rw (more, c.in_ok-keep-in-Ok.ensures) scanned;
      lines = omega (arith, lines, before);
    }

pub returns-in-Err-finish : goal.returns-in-Err-finish
returns-in-Err-finish c =
    let text = c.args.text.now in
    let scanned = subst (λ t. HasScanned c.loop-byte.scanner t c.loop-byte.numbers.items)
    (take_all c.loop-byte.byte-index text c.loop-byte-test.false) c.loop-byte.invariant.scanned in
    sym (ap (λ (s : Said). s.numbers) (c.in-Err-finish.ensures.refused text c.loop-byte.numbers.items scanned))
