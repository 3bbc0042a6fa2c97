-- The numbers below n that leave w modulo W, and how far apart they are.
use Rattle.std.proofs.Common.{ℕ, zero, suc, ◌+◌, ◌*◌, ◌/◌, ◌%◌, ◌<◌, ◌≤◌, ◌≡◌, ◌==◌, cond, true, false, Bool, List}
use Rattle.std.proofs.Common.{[], ◌∷◌, ◌++◌, length, get_or, map, refl, sym, ◌∙◌, ap, arith, mul_comm, map-id}
use Rattle.std.specs.List.{filter, range_with_len}
use Rattle.std.proofs.lemmas.Grind.{common_steps}
use Rattle.std.proofs.lemmas.Bool.Decides.{nat_tests}
use Rattle.std.proofs.lemmas.List.Elements.{filter-append}
use Rattle.std.proofs.lemmas.List.Sums.{length-filter}
use Rattle.std.proofs.lemmas.List.FromFn.{map-range_with_len_more, fill_by_all}
use Rattle.std.proofs.lemmas.List.{length-append, append-nil}
use Rattle.std.proofs.Math.Nat.{mul-le-mul_right}
use Rattle.lanes.specs.Verdicts.{turns}

pub range-more : (n : ℕ) → range_with_len 0 (suc n) ≡ range_with_len 0 n ++ n ∷ []
range-more n =
    let e : suc n ≡ n + 1 = omega arith in
    ap (range_with_len 0) e ∙ sym (map-id (range_with_len 0 (n + 1)))
    ∙ map-range_with_len_more (λ i. i) 0 n n (omega arith) ∙ ap (λ xs. xs ++ n ∷ []) (map-id (range_with_len 0 n))

-- the numbers below n that leave w modulo W, in order
unfoldable pub places : ℕ → ℕ → ℕ → List ℕ
places W w n = filter (λ i. i % W == w) (range_with_len 0 n)

last_kept : (b : Bool) (xs : List ℕ) (n : ℕ) → xs ++ cond b (n ∷ []) [] ≡ cond b (xs ++ n ∷ []) xs
last_kept true xs n = refl
last_kept false xs n = append-nil xs

pub places-more : (W w n : ℕ) → places W w (suc n) ≡ cond (n % W == w) (places W w n ++ n ∷ []) (places W w n)
unfolding places
places-more W w n =
    let test : ℕ → Bool = λ i. i % W == w in
    ap (filter test) (range-more n) ∙ filter-append test (range_with_len 0 n) (n ∷ []) ∙ last_kept (n % W == w) (filter test (range_with_len 0 n)) n

pub length-places : (W w n : ℕ) → length (places W w n) ≡ turns W w n
unfolding places turns
length-places W w n = length-filter (λ i. i % W == w) (range_with_len 0 n)

length_more : (b : Bool) (xs : List ℕ) (n : ℕ) → length (cond b (xs ++ n ∷ []) xs) ≡ cond b (length xs + 1) (length xs)
length_more true xs n = length-append xs (n ∷ [])
length_more false xs n = refl

pub turns-none : (W w : ℕ) → turns W w 0 ≡ 0
unfolding turns
turns-none W w = refl

pub turns-more : (W w n : ℕ) → turns W w (suc n) ≡ cond (n % W == w) (turns W w n + 1) (turns W w n)
turns-more W w n =
    sym (length-places W w (suc n)) ∙ ap length (places-more W w n) ∙ length_more (n % W == w) (places W w n) n
    ∙ ap (λ t. cond (n % W == w) (t + 1) t) (length-places W w n)

-- the two bounds that fix how many numbers below n leave w
pub record Bounds (W w n t : ℕ) : Type 0 where
  pub above : n ≤ w + t * W
  pub below : w + t * W < n + W

pub scaled : (W a b : ℕ) → a < b → a * W + W ≤ b * W
scaled W a b h = let k : (a + 1) * W ≤ b * W = mul-le-mul_right W (omega arith) in grind arith

pub same_place : (W w n t : ℕ) → w < W → Bounds W w n t → n % W ≡ w → n ≡ w + t * W
same_place W w n t lt b e =
    let turned : W * (n / W) ≡ n / W * W = mul_comm W (n / W) in
    let less = scaled W (n / W) t in
    let more = scaled W t (n / W) in
    let same : n / W ≡ t = grind arith in
    let scaled_same : n / W * W ≡ t * W = ap (λ k. k * W) same in
    omega arith

pub other_place : (W w n t : ℕ) → w < W → n ≡ w + t * W → n % W ≡ w
other_place W w n t lt e =
    let turned : W * (n / W) ≡ n / W * W = mul_comm W (n / W) in
    let less = scaled W (n / W) t in
    let more = scaled W t (n / W) in
    let same : n / W ≡ t = grind arith in
    let scaled_same : n / W * W ≡ t * W = ap (λ k. k * W) same in
    omega arith

bounds_step : (W w n t : ℕ) (b : Bool) → w < W → (n % W == w) ≡ b → Bounds W w n t → Bounds W w (suc n) (cond b (t + 1) t)
bounds_step W w n t true lt is h =
    let e : n ≡ w + t * W = same_place W w n t lt h (grind (arith, nat_tests)) in record { above = grind arith; below = grind arith }
bounds_step W w n t false lt is h =
    let e = other_place W w n t lt in
    record { above = grind (arith, nat_tests); below = omega arith }

pub bounds : (W w n : ℕ) → w < W → Bounds W w n (turns W w n)
bounds W w zero lt = rw (turns-none W w) (record { above = omega arith; below = omega arith })
bounds W w (suc n) lt = rw (turns-more W w n) (bounds_step W w n (turns W w n) (n % W == w) lt refl (bounds W w n lt))

at_more : (W w n i d : ℕ) (b : Bool) (xs : List ℕ) → length xs ≡ turns W w n → (b ≡ true → n ≡ w + turns W w n * W)
    → (i < turns W w n → get_or xs i d ≡ w + i * W) → i < cond b (turns W w n + 1) (turns W w n) → get_or (cond b (xs ++ n ∷ []) xs) i d ≡ w + i * W
at_more W w n i d true xs len at before below = let here = at refl in grind (arith, common_steps)
at_more W w n i d false xs len at before below = before below

pub get_or-places : (W w n i d : ℕ) → w < W → i < turns W w n → get_or (places W w n) i d ≡ w + i * W
get_or-places W w zero i d lt below = let none = turns-none W w in absurd (omega arith)
get_or-places W w (suc n) i d lt below =
    rw (places-more W w n)
    (at_more W w n i d (n % W == w) (places W w n) (length-places W w n)
    (λ is. same_place W w n (turns W w n) lt (bounds W w n lt) (grind (arith, nat_tests)))
    (get_or-places W w n i d lt) (rw (turns-more W w n) at below))

-- they are W apart, from w on
pub places-are : (W w n : ℕ) → w < W → places W w n ≡ map (λ i. w + i * W) (range_with_len 0 (turns W w n))
places-are W w n lt = fill_by_all (λ i. w + i * W) (places W w n) (turns W w n) 0 (length-places W w n) (λ k h. get_or-places W w n k 0 lt h)

pub count_more : (W w n : ℕ) → w < W → w < n % W → turns W w n ≡ n / W + 1
count_more W w n lt more =
    let b = bounds W w n lt in
    let turned : W * (n / W) ≡ n / W * W = mul_comm W (n / W) in
    let less = scaled W (turns W w n) (n / W + 1) in
    let above = scaled W (n / W + 1) (turns W w n) in
    grind arith

pub count_even : (W w n : ℕ) → w < W → n % W ≤ w → turns W w n ≡ n / W
count_even W w n lt more =
    let b = bounds W w n lt in
    let turned : W * (n / W) ≡ n / W * W = mul_comm W (n / W) in
    let less = scaled W (turns W w n) (n / W) in
    let above = scaled W (n / W) (turns W w n) in
    grind arith

pub turns_less : (W w t n : ℕ) → w < W → t % W ≡ w → t < n → turns W w t < turns W w n
turns_less W w t n lt at less =
    let here = same_place W w t (turns W w t) lt (bounds W w t lt) at in
    let there = bounds W w n lt in
    let back : turns W w n ≤ turns W w t → turns W w n * W ≤ turns W w t * W = λ le. mul-le-mul_right W le in
    grind (arith, back)
