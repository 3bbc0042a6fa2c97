use Rattle.std.proofs.Common.{◌≡◌, ◌∙◌, ◌==◌, false, true, refl, rules}
use Rattle.input.proofs.Stops.{cr_and_byte}
use Rattle.input.proofs.numbers.scanner.NumberScanner.go_on.Goals as goal

pub returns-then-self-clause-refused : goal.returns-then-self-clause-refused
returns-then-self-clause-refused c rest =
    let other : (c.args.byte == 10) ≡ false = search rules in
    let cr : c.args.self.now.after_cr ≡ true = search rules in
    cr_and_byte c.args.self.now c.args.byte rest cr other ∙ rw c.refused.ensures refl
