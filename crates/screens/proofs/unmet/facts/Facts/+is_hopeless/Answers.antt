use Rattle.std.proofs.Common.{◌≡◌, ℕ, ◌+◌, ◌-◌, ◌∙◌, Bool, true, false, arith, ap, min, sym}
use Rattle.conditions.specs.Form.{form_of}
use Rattle.screens.specs.Splits.{is_hopeless, part_at, start_of, told}
use Rattle.screens.proofs.Ranges.{one_fails, one_more}
use Rattle.screens.proofs.Hopeless.{unrolled}
use Rattle.screens.proofs.unmet.facts.Facts.+is_hopeless.Goals as goal

pub returns-then-not-is_hopeless : goal.returns-then-not-is_hopeless
returns-then-not-is_hopeless t c =
    let f = form_of c.args.tree.now in
    let m : ℕ = c.args.untold - 1 in
    let p : ℕ → Bool = λ n. is_hopeless f m (c.args.least - n) (c.args.most - n) (told m n (c.args.most - n) c.args.self.now) in
    let here : p c.loop-number.number ≡ false = cc (
      c.is_hopeless.ensures,
      c.if-not-is_hopeless.true,
      c.saturating_sub.ensures,
      c.told-facts.ensures,
    ) in
    let start : c.start_of-start.result ≡ start_of m c.args.least c.args.self.now = c.start_of-start.ensures in
    let most : c.part_at.result.most ≡ (part_at m c.args.self.now).most = ap (λ x. x.most) c.part_at.ensures in
    sym
    (unrolled f c.args.untold m c.args.least c.args.most c.args.self.now (omega arith) (sym c.refute.ensures ∙ c.if-refute.false)
    ∙ one_fails p (start_of m c.args.least c.args.self.now)
    (min (part_at m c.args.self.now).most c.args.most + 1 - start_of m c.args.least c.args.self.now) c.loop-number.number
    (omega (arith, start)) (omega (arith, start, most, c.min-end.ensures, c.loop-number-test.true)) here)

pub loop-number-preserved : goal.loop-number-preserved
loop-number-preserved t c =
    let m : ℕ = c.args.untold - 1 in
    let p : ℕ → Bool = λ n. is_hopeless (form_of c.args.tree.now) m (c.args.least - n) (c.args.most - n)
    (told m n (c.args.most - n) c.args.self.now) in
    let here : p c.loop-number.number ≡ true = cc (
      c.is_hopeless.ensures,
      c.if-not-is_hopeless.false,
      c.saturating_sub.ensures,
      c.told-facts.ensures,
    ) in
    one_more p c.start_of-start.result (c.loop-number.number - c.start_of-start.result) c.loop-number.number
    (c.loop-number.number + 1 - c.start_of-start.result) c.loop-number.invariant (omega arith) (omega arith) here
