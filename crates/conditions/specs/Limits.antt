-- The limits that every condition keeps: how many atoms a value adds up, and how large a number is.
use Rattle.std.specs.Prelude.{ℕ, ◌+◌, ◌≤◌, All}
use Rattle.conditions.specs.declared.limits.TheConstants.{MOST_PARTS}
use Rattle.conditions.specs.Form.{Amount, sum, number, counted, times, Form, any_of, all_of, negation, compare}
use Rattle.conditions.specs.Form.{within, balanced, shape, pattern, loose_shape, loose_pattern, stops, number_of}

-- the atoms of a value: each part that isn't a sum is one
abbrev pub atoms_of : Amount → ℕ
atoms_of (sum a b) = atoms_of a + atoms_of b
atoms_of (number n) = 1
atoms_of (counted c) = 1
atoms_of (times n c) = 1

-- the parts of a tree: the atoms of its values, and each test of a hand. A range has those of the
-- value that it tests: its two ends are none
abbrev pub parts_of : Form → ℕ
parts_of (any_of a b) = parts_of a + parts_of b
parts_of (all_of a b) = parts_of a + parts_of b
parts_of (negation a) = parts_of a
parts_of (compare a o b) = atoms_of a + atoms_of b
parts_of (within a l m) = atoms_of a
parts_of (balanced q) = 1
parts_of (shape q ns) = 1
parts_of (pattern q ns) = 1
parts_of (loose_shape q items) = 1
parts_of (loose_pattern q items) = 1
parts_of (stops q s) = 1

-- each value in the tree has at most this many atoms
abbrev pub HasAtMostAtoms : ℕ → Form → Type 0
HasAtMostAtoms n (any_of a b) = HasAtMostAtoms n a × HasAtMostAtoms n b
HasAtMostAtoms n (all_of a b) = HasAtMostAtoms n a × HasAtMostAtoms n b
HasAtMostAtoms n (negation a) = HasAtMostAtoms n a
HasAtMostAtoms n (compare a o b) = (atoms_of a ≤ n) × (atoms_of b ≤ n)
HasAtMostAtoms n (within a l m) = atoms_of a ≤ n
HasAtMostAtoms n (balanced q) = Unit {0}
HasAtMostAtoms n (shape q ns) = Unit {0}
HasAtMostAtoms n (pattern q ns) = Unit {0}
HasAtMostAtoms n (loose_shape q items) = Unit {0}
HasAtMostAtoms n (loose_pattern q items) = Unit {0}
HasAtMostAtoms n (stops q s) = Unit {0}

-- each number that the value adds up is at most m, and so is each factor
abbrev pub AddsNumbersUpTo : ℕ → Amount → Type 0
AddsNumbersUpTo m (sum a b) = AddsNumbersUpTo m a × AddsNumbersUpTo m b
AddsNumbersUpTo m (number n) = n ≤ m
AddsNumbersUpTo m (counted c) = Unit {0}
AddsNumbersUpTo m (times n c) = n ≤ m

-- each number in the tree is at most m: those of its values, ranges, shapes and patterns
abbrev pub HasNumbersUpTo : ℕ → Form → Type 0
HasNumbersUpTo m (any_of a b) = HasNumbersUpTo m a × HasNumbersUpTo m b
HasNumbersUpTo m (all_of a b) = HasNumbersUpTo m a × HasNumbersUpTo m b
HasNumbersUpTo m (negation a) = HasNumbersUpTo m a
HasNumbersUpTo m (compare a o b) = AddsNumbersUpTo m a × AddsNumbersUpTo m b
HasNumbersUpTo m (within a k n) = AddsNumbersUpTo m a × (k ≤ m) × (n ≤ m)
HasNumbersUpTo m (balanced q) = Unit {0}
HasNumbersUpTo m (shape q ns) = All (λ n. n ≤ m) ns
HasNumbersUpTo m (pattern q ns) = All (λ n. n ≤ m) ns
HasNumbersUpTo m (loose_shape q items) = All (λ i. number_of i ≤ m) items
HasNumbersUpTo m (loose_pattern q items) = All (λ i. number_of i ≤ m) items
HasNumbersUpTo m (stops q s) = Unit {0}

-- the limits of a condition
pub record IsWithinLimits (tree : Form) : Type 0 where
  pub few : HasAtMostAtoms MOST_PARTS tree
  pub small : HasNumbersUpTo 9999 tree
