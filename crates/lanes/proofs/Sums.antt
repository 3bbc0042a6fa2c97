-- Sums over the lanes.
use Rattle.std.proofs.Common.{◌≡◌, ◌≢◌, ℕ, zero, suc, ◌+◌, ◌%◌, ◌==◌, ◌<◌, ◌≤◌, Bool, true, false, cond, List, []}
use Rattle.std.proofs.Common.{◌∷◌, length, get_or, set, map, sum, sym, ◌∙◌, ap, arith, inl, inr}
use Rattle.std.specs.List.{range_with_len, count_by, All}
use Rattle.std.proofs.lemmas.Bool.{cases_eq, eq-eqb, ne_eqb, cond-true, cond-false}
use Rattle.std.proofs.lemmas.List.{get_or-set_same, get_or-set_other, length-set}
use Rattle.std.proofs.lemmas.List.Elements.{All-from_get_or}
use Rattle.std.proofs.lemmas.List.Sums.{sum_by-set, sum_by-le, sum_by-cons}
use Rattle.std.proofs.lemmas.List.FromFn.{fill_by_all, length-map-range_with_len, get_or-map-range_with_len}
use Rattle.lanes.specs.Verdicts.{turns}
use Rattle.lanes.proofs.Places.{turns-none, turns-more}

pub sum-set_more : (xs : List ℕ) (v : ℕ) → v < length xs → sum (set xs v (get_or xs v 0 + 1)) ≡ sum xs + 1
sum-set_more xs v short = omega (arith, sum_by-set (λ (x : ℕ). x) xs v (get_or xs v 0 + 1) 0 short)

pub count-set_true : (xs : List Bool) (v : ℕ) → v < length xs → get_or xs v false ≡ false
    → count_by (λ c. c) (set xs v true) ≡ count_by (λ c. c) xs + 1
count-set_true xs v short unclosed =
    let weight : Bool → ℕ = λ c. cond c 1 0 in
    let moved = sum_by-set weight xs v true false short in
    let none : weight (get_or xs v false) ≡ 0 = ap weight unclosed in
    omega (arith, moved, none)

pub sum-le : (xs ys : List ℕ) → length xs ≡ length ys → ((w : ℕ) → w < length xs → get_or xs w 0 ≤ get_or ys w 0) → sum xs ≤ sum ys
sum-le [] ys same h = omega arith
sum-le (x ∷ xs) [] same h = absurd (omega arith)
sum-le (x ∷ xs) (y ∷ ys) same h =
    let first : x ≤ y = h 0 (omega arith) in
    let rest = sum-le xs ys (omega arith) (λ w lt. h (suc w) (omega arith)) in
    omega (arith, sum_by-cons (λ (n : ℕ). n) x xs, sum_by-cons (λ (n : ℕ). n) y ys, first, rest)

-- one turn more is one more for the lane whose turn it is
pub turns-here : (W w n : ℕ) → w ≡ n % W → turns W w (n + 1) ≡ turns W w n + 1
turns-here W w n e = let s : n + 1 ≡ suc n = omega arith in rw s (turns-more W w n ∙ cond-true (n % W == w) _ _ (eq-eqb (n % W) w (sym e)))

pub turns-elsewhere : (W w n : ℕ) → w ≢ n % W → turns W w (n + 1) ≡ turns W w n
turns-elsewhere W w n ne = let s : n + 1 ≡ suc n = omega arith in
    rw s (turns-more W w n ∙ cond-false (n % W == w) _ _ (ne_eqb (n % W) w (λ e. ne (sym e))))

-- how many turns each of the W lanes has among the first n
abbrev pub turn_counts : ℕ → ℕ → List ℕ
turn_counts W n = map (λ w. turns W w n) (range_with_len 0 W)

count_at : (W n w : ℕ) → w < W → get_or (turn_counts W n) w 0 ≡ turns W w n
count_at W n w lt = get_or-map-range_with_len (λ w. turns W w n) 0 W w w 0 lt (omega arith)

counts_more_at : (W n k : ℕ) → 0 < W → k < W → get_or (set (turn_counts W n) (n % W) (get_or (turn_counts W n) (n % W) 0 + 1)) k 0 ≡ turns W k (n + 1)
counts_more_at W n k some lt =
    let rem : n % W < W = omega arith in
    let long : length (turn_counts W n) ≡ W = length-map-range_with_len (λ w. turns W w n) 0 W in
    let new : ℕ = get_or (turn_counts W n) (n % W) 0 + 1 in
    elim (cases_eq k (n % W)) [
      | inl e ↦ ap (λ i. get_or (set (turn_counts W n) (n % W) new) i 0) e
          ∙ get_or-set_same (turn_counts W n) (n % W) new 0 (omega arith) ∙ ap (λ t. t + 1) (count_at W n (n % W) rem)
          ∙ ap (λ i. turns W i n + 1) (sym e) ∙ sym (turns-here W k n e)
      | inr ne ↦ get_or-set_other (turn_counts W n) (n % W) k new 0 ne ∙ count_at W n k lt ∙ sym (turns-elsewhere W k n ne)
    ]

pub sum-turn_counts : (W n : ℕ) → 0 < W → sum (turn_counts W n) ≡ n
sum-turn_counts W zero some =
    let long : length (turn_counts W 0) ≡ W = length-map-range_with_len (λ w. turns W w 0) 0 W in
    let none : All (λ t. t ≤ 0) (turn_counts W 0) = All-from_get_or (λ t. t ≤ 0) (turn_counts W 0) 0
    (λ i lt. omega (arith, count_at W 0 i (omega arith), turns-none W i)) in
    omega (arith, sum_by-le (λ (t : ℕ). t) 0 (turn_counts W 0) none)
sum-turn_counts W (suc n) some =
    let long : length (turn_counts W n) ≡ W = length-map-range_with_len (λ w. turns W w n) 0 W in
    let rem : n % W < W = omega arith in
    let s : suc n ≡ n + 1 = omega arith in
    let moved : set (turn_counts W n) (n % W) (get_or (turn_counts W n) (n % W) 0 + 1) ≡ turn_counts W (n + 1) =
    fill_by_all (λ k. turns W k (n + 1)) _ W 0 (simp length-set long) (λ k lt. counts_more_at W n k some lt) in
    ap (λ m. sum (turn_counts W m)) s ∙ sym (ap sum moved) ∙ sum-set_more (turn_counts W n) (n % W) (omega arith)
    ∙ ap (λ m. m + 1) (sum-turn_counts W n some) ∙ sym s

-- counters of W lanes, each at most its lane's turns among the first n, are at most n in all
pub sum-within_turns : (W n : ℕ) (xs : List ℕ) → 0 < W → length xs ≡ W → ((w : ℕ) → w < W → get_or xs w 0 ≤ turns W w n) → sum xs ≤ n
sum-within_turns W n xs some long h =
    let counts : length (turn_counts W n) ≡ W = length-map-range_with_len (λ w. turns W w n) 0 W in
    let le = sum-le xs (turn_counts W n) (omega arith) (λ w lt. omega (arith, h w (omega arith), count_at W n w (omega arith))) in
    omega (arith, le, sum-turn_counts W n some)
