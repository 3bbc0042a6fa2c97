use Rattle.std.proofs.Common.{◌≡◌, ◌==◌, false, rules}
use Rattle.input.proofs.Scanning.{at_cr, byte_read, byte_refused}
use Rattle.input.proofs.records.scanner.RecordScanner.go_on.Goals as goal

pub returns-then-byte-eq13-clause-goes_on : goal.returns-then-byte-eq13-clause-goes_on
returns-then-byte-eq13-clause-goes_on c rest =
    let plain : c.args.self.now.after_cr ≡ false = search rules in
    rw c.if-byte-eq13.true (at_cr c.args.self.now rest plain)

pub returns-clause-goes_on : goal.returns-clause-goes_on
returns-clause-goes_on c =
    let plain : c.args.self.now.after_cr ≡ false = search rules in
    let ten : (c.args.byte == 10) ≡ false = search rules in
    let thirteen : (c.args.byte == 13) ≡ false = search rules in
    byte_read c.args.self.now c.take.new.self c.take.new.told c.args.self.now.after_cr c.args.byte c.take.result plain
    plain ten thirteen c.take.ensures.reads

pub returns-clause-refused : goal.returns-clause-refused
returns-clause-refused c =
    let plain : c.args.self.now.after_cr ≡ false = search rules in
    let ten : (c.args.byte == 10) ≡ false = search rules in
    let thirteen : (c.args.byte == 13) ≡ false = search rules in
    byte_refused c.args.self.now c.args.byte c.take.result plain ten thirteen c.take.ensures.refused
