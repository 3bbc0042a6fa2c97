use Rattle.std.proofs.Common.{◌+◌, ◌*◌, ◌∙◌, ◌++◌, ◌∷◌, [], ◌≡◌, ap, sym, subst, take, arith}
use Rattle.std.proofs.lemmas.List.{length-set, take_more_set, append_assoc}
use Rattle.cards.specs.CandidateWalks.{GoesOnAt}
use Rattle.cards.specs.Fixed.{candidate_around}
use Rattle.lanes.specs.Jobs.{verdicts_around}
use Rattle.lanes.specs.Slots.{verdict_in, verdicts_in}
use Rattle.lanes.specs.Verdicts.{verdict_of}
use Rattle.lanes.proofs.Blocks.{verdicts-more}
use Rattle.lanes.proofs.VerdictLists.{number_below, one_more}
use Rattle.lanes.proofs.worker.judge.Goals as goal

pub judge_next-requires-clause-number : goal.judge_next-requires-clause-number
judge_next-requires-clause-number c =
    let s = c.args.job.now.share in
    let below = number_below s.workers s.worker s.count s.first (c.args.place + c.loop-i.i) s.one_of s.within
    (omega (arith, c.loop-i-test.true, c.loop-i.auto, c.requires.within)) in
    omega (arith, below, c.at-number.ensures)

pub judge_next-requires-clause-at : goal.judge_next-requires-clause-at
judge_next-requires-clause-at c =
    let j = c.args.job.now in
    subst (λ n. GoesOnAt c.loop-i.candidates j.fixed j.seed n j.share.workers) (sym c.at-number.ensures) c.loop-i.invariant.next

pub loop-i-preserved : goal.loop-i-preserved
loop-i-preserved c =
    let j = c.args.job.now in
    let s = j.share in
    let p = c.args.place in
    let i = c.loop-i.i in
    let k = s.first + s.worker + (p + i) * s.workers in
    let all = verdicts_around j in
    let v = c.judge_next.result in
    let kept = c.loop-i.invariant in
    let more = one_more (candidate_around j.fixed j.seed) s.first s.count j.cond s.workers s.worker (p + i) s.one_of
    (omega (arith, c.loop-i-test.true, c.loop-i.auto, c.requires.within)) in
    let after : c.at-number.result + s.workers ≡ s.first + s.worker + (p + (i + 1)) * s.workers = omega (arith, c.at-number.ensures) in
    let next : p + i + 1 ≡ p + (i + 1) = omega arith in
    record {
      screening = c.judge_next.ensures.screening;
      len = length-set c.loop-i.block i v ∙ kept.len;
      next = subst (λ n. GoesOnAt c.judge_next.new.candidates j.fixed j.seed n s.workers) after c.judge_next.ensures.at;
      judged = ap (λ xs. take p all ++ verdicts_in xs) (take_more_set c.loop-i.block i v (omega (arith, c.loop-i-test.true, c.loop-i.auto, kept.len)))
          ∙ ap (λ xs. take p all ++ xs) (verdicts-more (take i c.loop-i.block) v)
          ∙ sym (append_assoc (take p all) (verdicts_in (take i c.loop-i.block)) (verdict_in v ∷ []))
          ∙ ap (λ xs. xs ++ verdict_in v ∷ []) kept.judged
          ∙ ap (λ u. take (p + i) all ++ u ∷ []) (c.judge_next.ensures.slot
          ∙ ap (verdict_of (candidate_around j.fixed j.seed) j.cond) c.at-number.ensures)
          ∙ sym more
          ∙ ap (λ n. take n all) next;
    }
