use Rattle.std.proofs.Common.{◌≡◌, ◌-◌, ◌++◌, ◌∙◌, max, ap, arith}
use Rattle.std.proofs.lemmas.List.{take-replicate}
use Rattle.notations.specs.Columns.{spaces}
use Rattle.notations.proofs.hands.parts.put_gap.Goals as goal

pub returns-clause-text : goal.returns-clause-text
returns-clause-text c =
    let count : c.max-count.result ≡ max 1 (c.args.column - c.args.used) = omega (arith, c.max-count.ensures, c.saturating_sub.ensures) in
    c.put_first.ensures.text ∙ ap (λ xs. c.args.text.now ++ xs)
    (take-replicate c.max-count.result 40 0x20 (omega (arith, count, c.requires.near)) ∙ ap spaces count)
