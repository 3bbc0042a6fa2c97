use Rattle.std.proofs.Common.{◌≡◌, ◌+◌, ◌*◌, ◌++◌, length, take}
use Rattle.cards.specs.CandidateWalks.{GoesOnAt}
use Rattle.lanes.specs.Jobs.{verdicts_around}
use Rattle.lanes.specs.Slots.{verdicts_in}
use Rattle.lanes.specs.internal.Screens.{IsScreenOf}
use Rattle.lanes.proofs.worker.judge.Given as goal

abbrev pub invariant-loop-i : goal.invariant-loop-i
invariant-loop-i l = record {
  screening : IsScreenOf l.screening l.job.cond l.job.fixed;
  len : length l.block ≡ length l.initial.block;
  next : GoesOnAt l.candidates l.job.fixed l.job.seed (l.job.share.first + l.job.share.worker + (l.place + l.i)
      * l.job.share.workers) l.job.share.workers;
  judged : take l.place (verdicts_around l.job) ++ verdicts_in (take l.i l.block) ≡ take (l.place + l.i) (verdicts_around l.job);
}
