use Rattle.std.proofs.Common.{◌≡◌, ◌+◌, refl, arith}
use Rattle.conditions.specs.Limits.{atoms_of}
use Rattle.conditions.specs.Form.{amount_of}
use Rattle.conditions.proofs.SomeAtom.{some_atom}
use Rattle.conditions.proofs.meaning.+sums.Goals as goal

pub sum_in-value_in-requires : goal.sum_in-value_in-requires
sum_in-value_in-requires t c = (omega (arith, some_atom (amount_of c.args.right.now)), omega arith)

pub sum_in-value_in-requires-2 : goal.sum_in-value_in-requires-2
sum_in-value_in-requires-2 t c = (omega (arith, some_atom (amount_of c.args.left.now)), omega arith)

pub value_in-sum_in-requires : goal.value_in-sum_in-requires
value_in-sum_in-requires t c =
    let left = amount_of c.deref.result.now in
    let right = amount_of c.deref-in-Sum.result.now in
    let all : atoms_of (amount_of c.args.value.now) ≡ atoms_of left + atoms_of right =
    rw (c.in-Sum.is, c.deref.ensures, c.deref-in-Sum.ensures) refl in
    (omega (arith, some_atom left, all), omega (arith, c.requires, all))
