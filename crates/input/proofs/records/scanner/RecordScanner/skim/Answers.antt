use Rattle.std.proofs.Common.{◌+◌, ◌^◌, arith, refl, rules}
use Rattle.input.proofs.Passing.{reads_passed}
use Rattle.input.proofs.Rooms.{roomier}
use Rattle.input.proofs.records.scanner.RecordScanner.skim.Goals as goal

pub pass-requires : goal.pass-requires
pass-requires c =
    let i = c.loop-i.i in
    roomier c.loop-i.self.reading (2 ^ 59 + i + (2 ^ 59 + i)) (2 ^ 60 + 2 ^ 60)
    (omega (arith, c.loop-i.invariant.within, c.requires.few)) (c.loop-i.invariant.room (2 ^ 59) c.requires.room)

pub loop-i-preserved : goal.loop-i-preserved
loop-i-preserved c =
    reads_passed c.args.self.now c.loop-i.self c.pass.new.self _ c.args.bytes.now c.loop-i.i (search rules) refl
    c.loop-i.invariant (c.pass.ensures.passed (search rules)) c.pass.ensures.room
