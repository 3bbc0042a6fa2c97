-- Beginnings of a list of verdicts.
use Rattle.std.proofs.Common.{ℕ, ◌+◌, ◌<◌, ◌≤◌, ◌≡◌, List, ◌++◌, length, take, sym, ◌∙◌, arith}
use Rattle.std.proofs.Math.Seq.{take-append-add}
use Rattle.std.proofs.lemmas.List.{length-append}
use Rattle.std.proofs.lemmas.Grind.{common_steps}
use Rattle.lanes.specs.declared.verdict.Verdict.{Verdict}
use Rattle.lanes.specs.Prefixes.{IsProperPrefix}

pub proper : (xs ys : List Verdict) (i : ℕ) → xs ≡ take i ys → i < length ys → IsProperPrefix xs ys
proper xs ys i is below = let len : length xs ≡ i = grind (arith, common_steps) in (rw len is, omega arith)

pub whole : (xs ys : List Verdict) (i : ℕ) → xs ≡ take i ys → length ys ≤ i → xs ≡ ys
whole xs ys i is above = grind (arith, common_steps)

-- a list and a part of another one is a beginning of both
pub proper_with : (xs ys zs : List Verdict) (i : ℕ) → xs ≡ ys ++ take i zs → i < length zs → IsProperPrefix xs (ys ++ zs)
proper_with xs ys zs i is below =
    proper xs (ys ++ zs) (length ys + i) (is ∙ sym (take-append-add ys zs i)) (omega (arith, length-append ys zs, below))
