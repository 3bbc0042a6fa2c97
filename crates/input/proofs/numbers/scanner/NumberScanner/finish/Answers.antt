use Rattle.std.proofs.Common.{◌≡◌, false, true, rules}
use Rattle.input.proofs.Stops.{ends_badly, ends_in_cr, ends_well}
use Rattle.input.proofs.numbers.scanner.NumberScanner.finish.Goals as goal

pub returns-then-self-clause-refused : goal.returns-then-self-clause-refused
returns-then-self-clause-refused c text numbers h =
    let cr : c.args.self.now.after_cr ≡ true = search rules in
    ends_in_cr c.args.self.now text numbers c.refused.result cr c.refused.ensures h

pub returns-clause-said : goal.returns-clause-said
returns-clause-said c text numbers h =
    let none : c.args.self.now.after_cr ≡ false = search rules in
    ends_well c.args.self.now text numbers c.line_says.result none c.line_says.ensures.said h

pub returns-clause-refused : goal.returns-clause-refused
returns-clause-refused c text numbers h =
    let none : c.args.self.now.after_cr ≡ false = search rules in
    ends_badly c.args.self.now text numbers c.line_says.result none c.line_says.ensures.refused h
