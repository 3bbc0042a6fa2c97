use Rattle.std.proofs.Common.{◌≡◌, ◌∙◌, ◌+◌, ◌*◌, ◌<◌, ◌%◌, arith, ap, subst, sym}
use Rattle.lcg48.specs.Sequence.{state_after}
use Rattle.lcg48.proofs.Digits.{jumps_all, jumps_more, jumps_none, JumpsOn}
use Rattle.lcg48.proofs.jumps.Jumps.apply.Goals as goal

pub loop-place-init : goal.loop-place-init
loop-place-init c = record { jumps = jumps_none c.args.from.now c.args.steps }

pub loop-place-preserved : goal.loop-place-preserved
loop-place-preserved c =
    let l = c.loop-place in
    let index = 16 * l.place + l.rest % 16 in
    let inside : 16 * l.place + l.rest % 16 < 192 = omega (arith, c.loop-place-test.true) in
    record {
      jumps = jumps_more c.args.from.now c.args.steps l.place l.generator l.rest c.apply-generator.result c.index-self-place.result l.invariant.jumps
          (c.apply-generator.ensures ∙ ap (state_after l.generator) (sym c.index-self-place.is))
          (c.index-self-place.is ∙ c.args.self.now.table index c.index-self-place.result inside);
    }

pub returns : goal.returns
returns c =
    let all : c.loop-place.place ≡ 12 = omega (arith, c.loop-place.auto.place-end, c.loop-place-test.false) in
    jumps_all c.args.from.now c.args.steps c.loop-place.generator c.loop-place.rest c.requires
    (subst (λ place. JumpsOn c.args.from.now c.args.steps place c.loop-place.generator c.loop-place.rest) all c.loop-place.invariant.jumps)
