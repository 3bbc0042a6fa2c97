use Rattle.std.proofs.Common.{arith}
use Rattle.input.proofs.FourBytes.{ends_fourth, ends_second, ends_third, four_read}
use Rattle.input.proofs.four_bytes.read_four.Goals as goal

pub returns-in_err-second-clause-ended : goal.returns-in_err-second-clause-ended
returns-in_err-second-clause-ended g c = grind (arith, ends_second)

pub returns-in_err-third-clause-ended : goal.returns-in_err-third-clause-ended
returns-in_err-third-clause-ended g c = grind (arith, ends_third)

pub returns-in_err-fourth-clause-ended : goal.returns-in_err-fourth-clause-ended
returns-in_err-fourth-clause-ended g c = grind (arith, ends_fourth)

pub returns-clause-given : goal.returns-clause-given
returns-clause-given g c =
    four_read (g.I.Source.rest c.args.input.now) (g.I.Source.rest c.read_byte.new.input)
    (g.I.Source.rest c.read_byte-2.new.input) (g.I.Source.rest c.read_byte-3.new.input)
    (g.I.Source.rest c.read_byte-4.new.input)
    c.in_ok-first.first c.in_ok-second.second c.in_ok-third.third c.in_ok-fourth.fourth
    c.in_ok-first.ensures.given c.in_ok-second.ensures.given c.in_ok-third.ensures.given c.in_ok-fourth.ensures.given
