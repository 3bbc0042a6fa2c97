-- A tree that no split of four counts leaves possible isn't met.
use Rattle.std.proofs.Common.{◌≡◌, ◌≤◌, ◌<◌, ◌+◌, ◌-◌, ℕ, zero, suc, true, false, List, ap, arith, inl, inr, min, refl}
use Rattle.std.specs.List.{list_all}
use Rattle.cards.specs.declared.seat.Seat.{Seat}
use Rattle.cards.specs.Deals.{IsPartition}
use Rattle.conditions.specs.Form.{Form}
use Rattle.conditions.specs.Meaning.{count_in, holds}
use Rattle.screens.specs.declared.unmet.facts.Fact.{Fact}
use Rattle.screens.specs.declared.unmet.facts.Facts.{Facts}
use Rattle.screens.specs.Facts.{AreTrueOf, IsTrueOf}
use Rattle.screens.specs.Refuted.{is_refuted}
use Rattle.screens.specs.Splits.{exactly, is_hopeless, part_at, start_of, told, tried, up_to}
use Rattle.screens.proofs.Ranges.{passes_at}
use Rattle.screens.proofs.Refuted.{refuted}
use Rattle.screens.proofs.Truths.{both_sides}

-- the last m counts together
abbrev pub left_sum : List Seat → ℕ → Facts → ℕ
left_sum deal zero k = 0
left_sum deal (suc m) k = count_in deal (part_at m k).count + left_sum deal m k

-- ---- the counts stay the same

same_part : (j m n r : ℕ) (k : Facts) → (part_at j (told m n r k)).count ≡ (part_at j k).count
same_part zero (suc (suc zero)) n r k = refl
same_part (suc zero) (suc (suc zero)) n r k = refl
same_part (suc (suc zero)) (suc (suc zero)) n r k = refl
same_part (suc (suc (suc j))) (suc (suc zero)) n r k = refl
same_part j m n r k = refl

same_sum : (deal : List Seat) (j m n r : ℕ) (k : Facts) → left_sum deal j (told m n r k) ≡ left_sum deal j k
same_sum deal zero m n r k = refl
same_sum deal (suc j) m n r k = omega (arith, ap (count_in deal) (same_part j m n r k), same_sum deal j m n r k)

-- ---- what is told is true

is_exactly : (deal : List Seat) (n : ℕ) (fact : Fact) → count_in deal fact.count ≡ n → IsTrueOf deal (exactly n fact)
is_exactly deal n fact e = record { low = omega (arith, e); high = omega (arith, e) }

is_up_to : (deal : List Seat) (r : ℕ) (fact : Fact) → IsTrueOf deal fact → count_in deal fact.count ≤ r → IsTrueOf deal (up_to r fact)
is_up_to deal r fact is h = record { low = is.low; high = omega (arith, is.high, h) }

told_true : (deal : List Seat) (m n r : ℕ) (k : Facts) → m ≤ 3 → AreTrueOf deal k
    → count_in deal (part_at m k).count ≡ n → left_sum deal m k ≤ r → AreTrueOf deal (told m n r k)
told_true deal zero n r k few are e h = record {
  first = are.first;
  second = are.second;
  third = are.third;
  fourth = is_exactly deal n k.fourth e;
}
told_true deal (suc zero) n r k few are e h = record {
  first = are.first;
  second = are.second;
  third = is_exactly deal n k.third e;
  fourth = is_up_to deal r k.fourth are.fourth (omega (arith, h));
}
told_true deal (suc (suc zero)) n r k few are e h = record {
  first = are.first;
  second = is_exactly deal n k.second e;
  third = is_up_to deal r k.third are.third (omega (arith, h));
  fourth = is_up_to deal r k.fourth are.fourth (omega (arith, h));
}
told_true deal (suc (suc (suc zero))) n r k few are e h = record {
  first = is_exactly deal n k.first e;
  second = is_up_to deal r k.second are.second (omega (arith, h));
  third = is_up_to deal r k.third are.third (omega (arith, h));
  fourth = is_up_to deal r k.fourth are.fourth (omega (arith, h));
}
told_true deal (suc (suc (suc (suc m)))) n r k few are e h = absurd (omega (arith, few))

true_part : (deal : List Seat) (m : ℕ) (k : Facts) → AreTrueOf deal k → IsTrueOf deal (part_at m k)
true_part deal zero k are = are.fourth
true_part deal (suc zero) k are = are.third
true_part deal (suc (suc zero)) k are = are.second
true_part deal (suc (suc (suc m))) k are = are.first

-- ---- it is tried

start_low : (deal : List Seat) (m least : ℕ) (k : Facts) → AreTrueOf deal k → least ≤ left_sum deal (suc m) k
    → start_of m least k ≤ count_in deal (part_at m k).count
start_low deal zero least k are h = omega (arith, h, are.fourth.low)
start_low deal (suc m) least k are h = (true_part deal (suc m) k are).low

is_tried : (a b most n : ℕ) → a ≤ n → n ≤ b → n ≤ most → n < a + (min b most + 1 - a)
is_tried a b most n h i j = omega (arith, h, i, j)

pub hopeless : (deal : List Seat) (f : Form) → IsPartition deal → (m least most : ℕ) (k : Facts) → m ≤ 4 → AreTrueOf deal k
    → least ≤ left_sum deal m k → left_sum deal m k ≤ most → is_hopeless f m least most k ≡ true → holds f deal ≡ false
unfolding is_hopeless
hopeless deal f ok zero least most k few are low high h = refuted deal k ok are f true h
hopeless deal f ok (suc m) least most k few are low high h =
    elim (both_sides (is_refuted k true f) (list_all (λ n. is_hopeless f m (least - n) (most - n)
    (told m n (most - n) k)) (tried m least most k)) h) [
      | inl e ↦ refuted deal k ok are f true e
      | inr all ↦
          let n : ℕ = count_in deal (part_at m k).count in
          let from : start_of m least k ≤ n = start_low deal m least k are low in
          let is = true_part deal m k are in
          let here =
          passes_at (λ x. is_hopeless f m (least - x) (most - x) (told m x (most - x) k)) (start_of m least k)
          (min (part_at m k).most most + 1 - start_of m least k) n all from
          (is_tried (start_of m least k) (part_at m k).most most n from is.high (omega (arith, high))) in
          let same = same_sum deal m m n (most - n) k in
          hopeless deal f ok m (least - n) (most - n) (told m n (most - n) k) (omega (arith, few))
          (told_true deal m n (most - n) k (omega (arith, few)) are refl (omega (arith, high)))
          (omega (arith, same, low)) (omega (arith, same, high)) here
    ]
