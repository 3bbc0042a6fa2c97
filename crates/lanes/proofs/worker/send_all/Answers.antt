use Rattle.std.proofs.Common.{◌+◌, ◌*◌, ◌∙◌, ◌≡◌, refl, sym, subst, arith}
use Rattle.cards.specs.CandidateWalks.{GoesOnAt}
use Rattle.cards.specs.Fixed.{candidate_around}
use Rattle.lanes.proofs.VerdictLists.{length-verdicts}
use Rattle.lanes.proofs.worker.send_all.Goals as goal

pub loop-place-init : goal.loop-place-init
loop-place-init g c =
    let j = c.args.job.now in
    let s = j.share in
    let first : s.first + c.from.result ≡ s.first + s.worker + 0 * s.workers = omega (arith, c.from.ensures) in
    record {
      ring = refl;
      sent = c.requires;
      screening = c.new-screening.ensures;
      next = subst (λ n. GoesOnAt c.around-candidates.result j.fixed j.seed n s.workers) first c.around-candidates.ensures;
      count = c.len-count.ensures ∙ sym (length-verdicts (candidate_around j.fixed j.seed) s.first s.count j.cond s.workers s.worker);
      turns = c.len-count.ensures;
      within = omega arith;
    }
