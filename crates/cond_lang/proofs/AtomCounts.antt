-- Each value of a tree has at most as many atoms as the tree has parts.
use Rattle.std.proofs.Common.{ℕ, ◌≤◌, arith}
use Rattle.conditions.specs.Form.{Form, any_of, all_of, negation, compare, within}
use Rattle.conditions.specs.Limits.{HasAtMostAtoms, parts_of}

pub few_atoms : (n : ℕ) (t : Form) → parts_of t ≤ n → HasAtMostAtoms n t
few_atoms n (any_of a b) h = (few_atoms n a (omega (arith, h)), few_atoms n b (omega (arith, h)))
few_atoms n (all_of a b) h = (few_atoms n a (omega (arith, h)), few_atoms n b (omega (arith, h)))
few_atoms n (negation a) h = few_atoms n a h
few_atoms n (compare a o b) h = (omega (arith, h), omega (arith, h))
few_atoms n (within a k l) h = h
few_atoms n x h = tt
