-- The least and the greatest that a value is, by what is known of a deal.
use Rattle.std.specs.Prelude.{ℕ, ◌+◌, ◌*◌}
use Rattle.conditions.specs.Form.{Amount, counted, number, times, sum as plus}
use Rattle.screens.specs.declared.unmet.facts.Facts.{Facts}
use Rattle.screens.specs.Facts.{greatest_by, least_by}

abbrev pub least_value : Facts → Amount → ℕ
least_value k (plus a b) = least_value k a + least_value k b
least_value k (number n) = n
least_value k (counted c) = least_by k c
least_value k (times n c) = n * least_by k c

abbrev pub greatest_value : Facts → Amount → ℕ
greatest_value k (plus a b) = greatest_value k a + greatest_value k b
greatest_value k (number n) = n
greatest_value k (counted c) = greatest_by k c
greatest_value k (times n c) = n * greatest_by k c
