use Rattle.std.proofs.Common.{◌-◌, ◌≡◌, ◌+◌, ◌*◌, ◌≤◌, take, length}
use Rattle.cards.specs.CandidateWalks.{GoesOnAt}
use Rattle.lanes.specs.Jobs.{verdicts_around}
use Rattle.lanes.specs.Verdicts.{turns}
use Rattle.lanes.specs.internal.Screens.{IsScreenOf}
use Rattle.lanes.proofs.worker.send_all.Given as goal

abbrev pub invariant-loop-place : goal.invariant-loop-place
invariant-loop-place g l = record {
  ring : l.lane.ring ≡ l.fn.lane.ring;
  sent : l.lane.sent ≡ take l.place (verdicts_around l.job);
  screening : IsScreenOf l.screening l.job.cond l.job.fixed;
  next : GoesOnAt l.candidates l.job.fixed l.job.seed (l.job.share.first + l.job.share.worker + l.place * l.job.share.workers) l.job.share.workers;
  count : l.count ≡ length (verdicts_around l.job);
  turns : l.count ≡ turns l.job.share.workers l.job.share.worker l.job.share.count;
  within : l.place ≤ l.count;
}

abbrev pub decreases-loop-place : goal.decreases-loop-place
decreases-loop-place g l = l.count - l.place
