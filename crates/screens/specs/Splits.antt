-- Four counts that add up: each way to split their sum is tried.
use Rattle.std.specs.Prelude.{ℕ, zero, suc, ◌+◌, ◌-◌, max, min, ◌||◌, Bool, true, List}
use Rattle.std.specs.List.{list_all, range_with_len}
use Rattle.conditions.specs.Form.{Form}
use Rattle.screens.specs.declared.unmet.facts.Fact.{Fact}
use Rattle.screens.specs.declared.unmet.facts.Facts.{Facts}
use Rattle.screens.specs.Refuted.{is_refuted}

abbrev pub exactly : ℕ → Fact → Fact
exactly n fact = record fact { least = n; most = n }

abbrev pub up_to : ℕ → Fact → Fact
up_to n fact = record fact { most = min fact.most n }

-- the fact that has this many after it
abbrev pub part_at : ℕ → Facts → Fact
part_at zero k = k.fourth
part_at (suc zero) k = k.third
part_at (suc (suc zero)) k = k.second
part_at _ k = k.first

-- its count is exactly n, and those after it are at most r
abbrev pub told : ℕ → ℕ → ℕ → Facts → Facts
told zero n r k = record k { fourth = exactly n k.fourth }
told (suc zero) n r k = record k { third = exactly n k.third; fourth = up_to r k.fourth }
told (suc (suc zero)) n r k = record k {
  second = exactly n k.second;
  third = up_to r k.third;
  fourth = up_to r k.fourth;
}
told _ n r k = record {
  first = exactly n k.first;
  second = up_to r k.second;
  third = up_to r k.third;
  fourth = up_to r k.fourth;
}

-- the least number to try for it: what is left over has to go to the last
abbrev pub start_of : ℕ → ℕ → Facts → ℕ
start_of zero least k = max k.fourth.least least
start_of m least k = (part_at m k).least

-- the numbers to try
abbrev pub tried : ℕ → ℕ → ℕ → Facts → List ℕ
tried m least most k =
    range_with_len (start_of m least k)
    (min (part_at m k).most most + 1 - start_of m least k)

-- the tree isn't met whatever the last ones of the counts are, if these are together from
-- `least` to `most`
unfoldable pub is_hopeless : Form → ℕ → ℕ → ℕ → Facts → Bool
is_hopeless f zero least most k = is_refuted k true f
is_hopeless f (suc m) least most k =
    is_refuted k true f
    || list_all (λ n. is_hopeless f m (least - n) (most - n) (told m n (most - n) k))
    (tried m least most k)
