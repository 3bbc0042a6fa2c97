-- Each value has an atom.
use Rattle.std.proofs.Common.{◌<◌, arith}
use Rattle.conditions.specs.Form.{Amount, sum, number, counted, times}
use Rattle.conditions.specs.Limits.{atoms_of}

pub some_atom : (a : Amount) → 0 < atoms_of a
some_atom (sum a b) = omega (arith, some_atom a)
some_atom x = omega arith
