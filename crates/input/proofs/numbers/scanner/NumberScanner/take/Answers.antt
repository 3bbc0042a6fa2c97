use Rattle.std.proofs.Common.{◌≡◌, ◌==◌, false, rules}
use Rattle.std.proofs.lemmas.List.{append-nil}
use Rattle.input.proofs.Scanned.{scanned_byte}
use Rattle.input.proofs.Stops.{lines_end}
use Rattle.input.proofs.numbers.scanner.NumberScanner.take.Goals as goal

pub returns-then-byte-eq10-clause-scanned : goal.returns-then-byte-eq10-clause-scanned
returns-then-byte-eq10-clause-scanned c text numbers h =
    rw c.if-byte-eq10.true (lines_end c.args.self.now c.end_line.new.self c.end_line.result text numbers
    c.end_line.ensures.said c.end_line.ensures.counts h)

pub returns-clause-scanned : goal.returns-clause-scanned
returns-clause-scanned c text numbers h =
    let other : (c.args.byte == 10) ≡ false = search rules in
    let same = c.in_ok-go_on.ensures in
    rw append-nil (scanned_byte c.args.self.now c.go_on.new.self c.args.byte text numbers other same.said same.counts.1 h)
