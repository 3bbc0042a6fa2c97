use Rattle.std.proofs.Common.{◌∙◌, arith}
use Rattle.lanes.proofs.Blocks.{proper_with_slots}
use Rattle.lanes.proofs.worker.send_each.Goals as goal

pub returns-then-load-clause-some : goal.returns-then-load-clause-some
returns-then-load-clause-some g c _ =
    proper_with_slots c.loop-i.lane.sent c.args.lane.now.sent c.args.block.now c.loop-i.i c.loop-i.invariant.sent
    (omega (arith, c.loop-i-test.true, c.loop-i.auto))

pub returns-then-not-send-clause-some : goal.returns-then-not-send-clause-some
returns-then-not-send-clause-some g c _ =
    proper_with_slots c.send.new.lane.sent c.args.lane.now.sent c.args.block.now c.loop-i.i
    (c.if-not-send.ensures.sent ∙ c.loop-i.invariant.sent) (omega (arith, c.loop-i-test.true, c.loop-i.auto))
