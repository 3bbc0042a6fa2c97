-- The greatest count of some rows.
use Rattle.std.proofs.Common.{inl, inr, ◌≡◌, ◌+◌, ◌-◌, ◌<◌, ◌≤◌, ◌∙◌, ℕ, suc, zero, List, map, max, fold, get_or, sym, ap, subst, arith}
use Rattle.std.specs.List.{range_with_len}
use Rattle.std.proofs.lemmas.List.FromFn.{map-range_with_len_more}
use Rattle.std.proofs.lemmas.List.Sums.{fold_push}
use Rattle.std.proofs.lemmas.Bool.{cases_eq}
use Rattle.statistics.specs.declared.rows.Rows.{Rows}
use Rattle.statistics.specs.internal.Texts.{most_of}

pub most_more : (f : ℕ → ℕ) (first number : ℕ) → first ≤ number
    → fold max 0 (map f (range_with_len first (number + 1 - first))) ≡ max (fold max 0 (map f (range_with_len first (number - first)))) (f number)
most_more f first number le =
    let e : number + 1 - first ≡ (number - first) + 1 = omega arith in
    ap (λ (c : ℕ). fold max 0 (map f (range_with_len first c))) e
    ∙ ap (λ (xs : List ℕ). fold max 0 xs) (map-range_with_len_more f first (number - first) number (omega arith))
    ∙ fold_push max 0 (map f (range_with_len first (number - first))) (f number)

pub most_up_to : (f : ℕ → ℕ) (first n k : ℕ) → k < n → f (first + k) ≤ fold max 0 (map f (range_with_len first n))
most_up_to f first zero k lt = absurd (omega arith)
most_up_to f first (suc n) k lt =
    let e : first + n + 1 - first ≡ suc n = omega arith in
    let d : first + n - first ≡ n = omega arith in
    let more : fold max 0 (map f (range_with_len first (suc n))) ≡ max (fold max 0 (map f (range_with_len first n))) (f (first + n)) =
    ap (λ (c : ℕ). fold max 0 (map f (range_with_len first c))) (sym e) ∙ most_more f first (first + n) (omega arith)
    ∙ ap (λ (c : ℕ). max (fold max 0 (map f (range_with_len first c))) (f (first + n))) d in
    elim (cases_eq k n) [
      | inl same ↦ omega (arith, more, ap (λ (j : ℕ). f (first + j)) same)
      | inr other ↦ omega (arith, more, most_up_to f first n k (omega arith))
    ]

-- no row has more
pub most_at : (counts : List ℕ) (rows : Rows) (n : ℕ) → rows.first ≤ n → n < rows.end → get_or counts n 0 ≤ most_of counts rows
most_at counts rows n le lt =
    let e : rows.first + (n - rows.first) ≡ n = omega arith in
    subst (λ (j : ℕ). get_or counts j 0 ≤ most_of counts rows) e
    (most_up_to (λ (j : ℕ). get_or counts j 0) rows.first (rows.end - rows.first) (n - rows.first) (omega arith))
