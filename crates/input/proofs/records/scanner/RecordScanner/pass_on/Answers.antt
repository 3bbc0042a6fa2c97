use Rattle.std.proofs.Common.{◌≡◌, ◌+◌, ◌^◌, None, arith, subst}
use Rattle.input.specs.internal.TagTexts.{Reads}
use Rattle.input.proofs.Passing.{reads_on}
use Rattle.input.proofs.Rooms.{roomier}
use Rattle.input.proofs.records.scanner.RecordScanner.pass_on.Goals as goal

pub skim-from-requires-clause-room : goal.skim-from-requires-clause-room
skim-from-requires-clause-room c =
    let n = c.loop-from.from in
    roomier c.loop-from.self.reading (2 ^ 58 + n + (2 ^ 58 + n)) (2 ^ 59 + 2 ^ 59)
    (omega (arith, c.loop-from.invariant.within, c.requires.few))
    (c.loop-from.invariant.room (2 ^ 58) c.requires.room)

pub pass_tag_at-count-requires : goal.pass_tag_at-count-requires
pass_tag_at-count-requires c =
    let n = c.loop-from.from + c.skim-from.result in
    let all = reads_on c.args.self.now c.loop-from.self c.skim-from.new.self c.args.bytes.now c.loop-from.from
    c.skim-from.result None c.loop-from.invariant c.skim-from.ensures in
    roomier c.skim-from.new.self.reading (2 ^ 58 + n + (2 ^ 58 + n)) (2 ^ 60 + 2 ^ 60)
    (omega (arith, all.within, c.requires.few)) (all.room (2 ^ 58) c.requires.room)

pub returns-then-count-eq0 : goal.returns-then-count-eq0
returns-then-count-eq0 c =
    let n = c.loop-from.from + c.skim-from.result in
    let all = reads_on c.args.self.now c.loop-from.self c.skim-from.new.self c.args.bytes.now c.loop-from.from
    c.skim-from.result None c.loop-from.invariant c.skim-from.ensures in
    let more = reads_on c.args.self.now c.skim-from.new.self c.pass_tag_at-count.new.self c.args.bytes.now n
    c.pass_tag_at-count.result None all c.pass_tag_at-count.ensures in
    let same : n + c.pass_tag_at-count.result ≡ n = omega (arith, c.if-count-eq0.true) in
    subst (λ k. Reads c.args.self.now c.pass_tag_at-count.new.self c.args.bytes.now k None) same more

pub loop-from-preserved : goal.loop-from-preserved
loop-from-preserved c =
    let n = c.loop-from.from + c.skim-from.result in
    let all = reads_on c.args.self.now c.loop-from.self c.skim-from.new.self c.args.bytes.now c.loop-from.from
    c.skim-from.result None c.loop-from.invariant c.skim-from.ensures in
    reads_on c.args.self.now c.skim-from.new.self c.pass_tag_at-count.new.self c.args.bytes.now n
    c.pass_tag_at-count.result None all c.pass_tag_at-count.ensures
