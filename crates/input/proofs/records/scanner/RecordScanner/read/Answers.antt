use Rattle.std.proofs.Common.{◌+◌, ◌^◌, None, arith}
use Rattle.input.proofs.Passing.{reads_on}
use Rattle.input.proofs.Rooms.{roomier}
use Rattle.input.proofs.records.scanner.RecordScanner.read.Goals as goal

pub pass_on-from-requires-clause-room : goal.pass_on-from-requires-clause-room
pass_on-from-requires-clause-room c =
    let n = c.loop-from.from in
    roomier c.loop-from.self.reading (2 ^ 57 + n + (2 ^ 57 + n)) (2 ^ 58 + 2 ^ 58)
    (omega (arith, c.loop-from.invariant.within, c.requires.few))
    (c.loop-from.invariant.room (2 ^ 57) c.requires.room)

pub returns-then-from-bytes-clause-reads : goal.returns-then-from-bytes-clause-reads
returns-then-from-bytes-clause-reads c =
    reads_on c.args.self.now c.loop-from.self c.pass_on-from.new.self c.args.bytes.now c.loop-from.from
    c.pass_on-from.result None c.loop-from.invariant c.pass_on-from.ensures

pub take_first-requires-clause-room : goal.take_first-requires-clause-room
take_first-requires-clause-room c =
    let n = c.loop-from.from + c.pass_on-from.result in
    let all = reads_on c.args.self.now c.loop-from.self c.pass_on-from.new.self c.args.bytes.now c.loop-from.from
    c.pass_on-from.result None c.loop-from.invariant c.pass_on-from.ensures in
    roomier c.pass_on-from.new.self.reading (2 ^ 57 + n + (2 ^ 57 + n)) (2 ^ 60 + 2 ^ 60)
    (omega (arith, all.within, c.requires.few)) (all.room (2 ^ 57) c.requires.room)

pub returns-then-ended-clause-reads : goal.returns-then-ended-clause-reads
returns-then-ended-clause-reads c =
    let all = reads_on c.args.self.now c.loop-from.self c.pass_on-from.new.self c.args.bytes.now c.loop-from.from
    c.pass_on-from.result None c.loop-from.invariant c.pass_on-from.ensures in
    reads_on c.args.self.now c.pass_on-from.new.self c.take_first.new.self c.args.bytes.now
    (c.loop-from.from + c.pass_on-from.result) 1 _ all (rw c.if-ended.true at c.in_ok-ended.ensures.reads)

pub loop-from-preserved : goal.loop-from-preserved
loop-from-preserved c =
    let all = reads_on c.args.self.now c.loop-from.self c.pass_on-from.new.self c.args.bytes.now c.loop-from.from
    c.pass_on-from.result None c.loop-from.invariant c.pass_on-from.ensures in
    reads_on c.args.self.now c.pass_on-from.new.self c.take_first.new.self c.args.bytes.now
    (c.loop-from.from + c.pass_on-from.result) 1 None all (rw c.if-ended.false at c.in_ok-ended.ensures.reads)
