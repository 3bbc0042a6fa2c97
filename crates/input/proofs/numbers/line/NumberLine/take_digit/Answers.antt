use Rattle.std.proofs.Common.{◌≤◌, arith}
use Rattle.input.proofs.Tens.{below_tens}
use Rattle.input.proofs.numbers.line.NumberLine.take_digit.Goals as goal

pub overflow_mul-self : goal.overflow_mul-self
overflow_mul-self c =
    let few : c.self.inside.digits ≤ 12 = omega (arith, c.self.invariant.few, c.if-self-eq-MOST_DIGITS.false) in
    let small = below_tens c.self.inside.value c.self.inside.digits c.self.invariant.small few in
    omega arith

pub overflow_add-self : goal.overflow_add-self
overflow_add-self c =
    let few : c.self.inside.digits ≤ 12 = omega (arith, c.self.invariant.few, c.if-self-eq-MOST_DIGITS.false) in
    let small = below_tens c.self.inside.value c.self.inside.digits c.self.invariant.small few in
    let same = c.from.ensures in
    omega arith
