-- A table of the answers to a question has few rows.
use Rattle.std.proofs.Common.{ℕ, zero, suc, ◌≡◌, ◌≤◌, ◌<◌, ◌*◌, ◌+◌, ◌&&◌, Bool, true, false}
use Rattle.std.proofs.Common.{List, [], ◌∷◌, Some, arith, nat_lt, refl, slice_get, subst}
use Rattle.std.specs.List.{list_all}
use Rattle.std.proofs.lemmas.Bool.{and_parts, ltb-true}
use Rattle.std.specs.Prelude.{cond}
use Rattle.std.proofs.Math.Nat.{min-le_right, mul-le-mul, mul-le-mul_left}
use Rattle.cards.specs.declared.hand.Measure.{Measure}
use Rattle.cards.specs.Measures.{measures, measure_number, measure_listed}
use Rattle.cards.specs.declared.honours.Honours.{Honours}
use Rattle.cards.proofs.OrderedLengths.{few_ordered}
use Rattle.conditions.specs.declared.tree.Count.{Count}
use Rattle.conditions.specs.declared.tree.Count.TheVariants as counts
use Rattle.conditions.specs.Bounds.{greatest_count, greatest_of, most_in, most_of, rank_count}
use Rattle.conditions.specs.Form.{Amount, counted, number, times}
use Rattle.conditions.specs.Form.{sum as plus}
use Rattle.conditions.specs.Limits.{AddsNumbersUpTo, atoms_of}
use Rattle.conditions.specs.Questions.{IsAskable, Question, asks_condition, asks_value, most_answer, rows_of}

one_at_most : (b : Bool) → cond b 1 0 ≤ 1
one_at_most true = omega arith
one_at_most false = omega arith

few_ranks : (h : Honours) → rank_count h ≤ 5
few_ranks h = omega (arith, one_at_most h.ace, one_at_most h.king, one_at_most h.queen, one_at_most h.jack, one_at_most h.ten)

-- no measure counts more than 40 of a hand, or of a suit: each has a place among all
abbrev is_small : Measure → Bool
is_small m = nat_lt (most_of m) 41 && nat_lt (most_in m) 41

at_place : (test : Measure → Bool) (ms : List Measure) (n : ℕ) (m : Measure)
    → list_all test ms ≡ true → slice_get ms n ≡ Some m → test m ≡ true
at_place test [] n m all at = absurd cc
at_place test (x ∷ ms) zero m all at =
    let same : x ≡ m = cc in
    subst (λ y. test y ≡ true) same (and_parts (test x) (list_all test ms) all).0
at_place test (x ∷ ms) (suc n) m all at =
    at_place test ms n m (and_parts (test x) (list_all test ms) all).1 at

small : (m : Measure) → is_small m ≡ true
small m = at_place is_small measures (measure_number m) m refl (measure_listed m)

few_of : (m : Measure) → most_of m ≤ 40
few_of m =
    let less : most_of m < 41 = ltb-true (most_of m) 41 (and_parts _ _ (small m)).0 in
    omega (arith, less)

few_in : (m : Measure) → most_in m ≤ 40
few_in m =
    let less : most_in m < 41 = ltb-true (most_in m) 41 (and_parts _ _ (small m)).1 in
    omega (arith, less)

-- no count is above 40
pub few_count : (c : Count) → greatest_count c ≤ 40
few_count (counts.Total m q) = few_of m
few_count (counts.SuitTotal m q s) = few_in m
few_count (counts.Cards q h) = omega (arith, min-le_right (4 * rank_count h) 13)
few_count (counts.SuitCards q s h) = omega (arith, few_ranks h)
few_count (counts.Length q s) = omega arith
few_count (counts.Ordered o q) = omega (arith, few_ordered o)

few_times : (n c : ℕ) → n ≤ 9999 → c ≤ 40 → n * c ≤ 9999 * 40
few_times n c h i = mul-le-mul h i

-- each of the atoms counts at most 9999 times 40
few_each : (a : Amount) → AddsNumbersUpTo 9999 a → greatest_of a ≤ (9999 * 40) * atoms_of a
few_each (plus a b) small = omega (arith, few_each a small.0, few_each b small.1)
few_each (number n) small = omega (arith, small)
few_each (counted c) small = omega (arith, few_count c)
few_each (times n c) small = omega (arith, few_times n (greatest_count c) small (few_count c))

pub few_rows : (asked : Question) → IsAskable asked → rows_of asked ≤ most_answer + 1
few_rows (asks_condition tree) small = omega arith
few_rows (asks_value value) small = omega (arith, few_each value small.small, mul-le-mul_left (9999 * 40) small.few)
