use Rattle.std.proofs.Common.{◌≡◌, ◌∙◌, ◌+◌, ◌==◌, arith, false, refl, rules}
use Rattle.input.specs.RecordScans.{spells_from}
use Rattle.input.proofs.Rooms.{roomier}
use Rattle.input.proofs.Scanning.{at_byte, at_lf, plainly}
use Rattle.input.proofs.records.scanner.RecordScanner.pass.Goals as goal

pub returns-then-byte-eq10-clause-passed : goal.returns-then-byte-eq10-clause-passed
returns-then-byte-eq10-clause-passed c is rest =
    rw c.if-byte-eq10.true (at_lf c.args.self.now rest ∙ c.pass_end.ensures.passed c.if-not-pass_end.false (λ t. spells_from (plainly t) rest))

pub returns-then-byte-eq10-clause-room : goal.returns-then-byte-eq10-clause-room
returns-then-byte-eq10-clause-room c n before =
    roomier c.pass_end.new.self (n + n + 1) (n + 1 + (n + 1)) (omega arith) (c.pass_end.ensures.room (n + n) before)

pub returns-clause-passed : goal.returns-clause-passed
returns-clause-passed c passed rest =
    let ten : (c.args.byte == 10) ≡ false = search rules in
    let thirteen : (c.args.byte == 13) ≡ false = search rules in
    rw c.if-self.false (at_byte (plainly c.args.self.now.reading) c.args.byte rest refl ten thirteen
    ∙ c.pass.ensures.passed passed (λ t. spells_from (plainly t) rest))

pub returns-clause-room : goal.returns-clause-room
returns-clause-room c n before = roomier c.pass.new.self (n + n) (n + 1 + (n + 1)) (omega arith) (c.pass.ensures.room (n + n) before)
