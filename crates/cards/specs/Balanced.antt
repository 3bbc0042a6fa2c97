-- A balanced shape as a fact: one of the three in some order.
use Rattle.std.specs.Prelude.{ℕ, ◌⊎◌, List}
use Rattle.std.specs.List.Sorted.{IsPermutation}
use Rattle.cards.specs.Hands.{flat, two_fours, one_five}

abbrev pub IsBalanced : List ℕ → Type 0
IsBalanced shape =
    IsPermutation shape flat ⊎ IsPermutation shape two_fours ⊎ IsPermutation shape one_five
