-- How many digits a fraction has after its point.
use Rattle.std.specs.Prelude.{ℕ}
use Rattle.statistics.specs.declared.fractions.Digits.{Digits}
use Rattle.statistics.specs.declared.fractions.Digits.TheVariants.{Three, Two}

abbrev pub digits_of : Digits → ℕ
digits_of Two = 2
digits_of Three = 3
