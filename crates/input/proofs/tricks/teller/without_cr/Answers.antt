use Rattle.std.proofs.Common.{◌≡◌, ◌+◌, length, sym, get_or, rules}
use Rattle.input.proofs.LineEnds.{cr_at_end, no_cr_at_end}
use Rattle.input.proofs.tricks.teller.without_cr.Goals as goal

pub returns-then-line-end-eq13 : goal.returns-then-line-end-eq13
returns-then-line-end-eq13 c =
    let len : length c.args.line.now ≡ c.in-Some.end + 1 = search rules in
    let is : get_or c.args.line.now c.in-Some.end 0 ≡ 13 = search rules in
    sym (cr_at_end c.args.line.now c.in-Some.end len is)

pub returns-else-line-end-eq13 : goal.returns-else-line-end-eq13
returns-else-line-end-eq13 c =
    let len : length c.args.line.now ≡ c.in-Some.end + 1 = search rules in
    sym (no_cr_at_end c.args.line.now c.in-Some.end len (λ e. c.if-line-end-eq13.false e))
