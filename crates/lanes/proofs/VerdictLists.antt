-- A worker's verdicts, one by one.
use Rattle.std.proofs.Common.{ℕ, ◌+◌, ◌*◌, ◌%◌, ◌^◌, ◌<◌, ◌≤◌, ◌≡◌, ◌==◌, Bool, false, List, [], ◌∷◌, ◌++◌, length}
use Rattle.std.proofs.Common.{take, map, refl, sym, ◌∙◌, ap, arith}
use Rattle.std.specs.List.{range_with_len}
use Rattle.std.specs.Prelude.{Option, filter}
use Rattle.std.proofs.lemmas.Simd.{map-map}
use Rattle.std.proofs.lemmas.List.{length-map}
use Rattle.std.proofs.lemmas.List.FromFn.{map-range_with_len_more, take-map-range_with_len}
use Rattle.cards.specs.declared.seat.Seat.{Seat}
use Rattle.cards.specs.Fixed.{candidate_around}
use Rattle.cards.specs.Packed.{PackedView, undealt}
use Rattle.conditions.specs.Form.{Form}
use Rattle.conditions.specs.Meaning.{holds}
use Rattle.lanes.specs.declared.verdict.Verdict.{Verdict}
use Rattle.lanes.specs.Slots.{SlotView, verdict_in}
use Rattle.lanes.specs.Verdicts.{turns, verdicts, verdict_of}
use Rattle.lanes.proofs.Places.{bounds, length-places, places, places-are, scaled}

pub length-verdicts : (d : ℕ → List Seat) (f n : ℕ) (form : Form) (W w : ℕ) → length (verdicts d f n form W w) ≡ turns W w n
unfolding verdicts places
length-verdicts d f n form W w = simp length-map (length-places W w n)

-- the i-th verdict is that on the candidate f + w + i * W
pub verdicts-are : (d : ℕ → List Seat) (f n : ℕ) (form : Form) (W w : ℕ) → w < W
    → verdicts d f n form W w ≡ map (λ i. verdict_of d form (f + (w + i * W))) (range_with_len 0 (turns W w n))
unfolding verdicts places
verdicts-are d f n form W w lt =
    ap (map (λ i. verdict_of d form (f + i))) (places-are W w n lt) ∙ map-map _ _ (range_with_len 0 (turns W w n))

-- one verdict more of the first ones
pub one_more : (d : ℕ → List Seat) (f n : ℕ) (form : Form) (W w i : ℕ) → w < W → i < turns W w n
    → take (i + 1) (verdicts d f n form W w) ≡ take i (verdicts d f n form W w) ++ verdict_of d form (f + w + i * W) ∷ []
one_more d f n form W w i lt below =
    let at : ℕ → Verdict = λ i. verdict_of d form (f + (w + i * W)) in
    let is = verdicts-are d f n form W w lt in
    let e : f + (w + i * W) ≡ f + w + i * W = omega arith in
    ap (take (i + 1)) is ∙ take-map-range_with_len at 0 (turns W w n) (i + 1) (omega arith) ∙ map-range_with_len_more at 0 i i (omega arith)
    ∙ ap (λ xs. xs ++ at i ∷ []) (sym (ap (take i) is ∙ take-map-range_with_len at 0 (turns W w n) i (omega arith)))
    ∙ ap (λ k. take i (verdicts d f n form W w) ++ verdict_of d form k ∷ []) e

-- the verdict that a worker makes of a candidate
pub verdict_made : (deals : ℕ → List Seat) (form : Form) (k number : ℕ) (accepted : Bool) (deal : List Seat)
    → number ≡ k → deal ≡ deals k → accepted ≡ holds form deal
    → record { number = number; accepted = accepted; deal = deal } ≡ verdict_of deals form k
verdict_made deals form k number accepted deal number_is same accepted_is =
    let test : accepted ≡ holds form (deals k) = accepted_is ∙ ap (holds form) same in
    cc (number_is, same, test)

-- the same deals give the same verdicts
pub same_verdicts : (d e : ℕ → List Seat) (f n : ℕ) (form : Form) (W w : ℕ) → ((k : ℕ) → d k ≡ e k)
    → verdicts d f n form W w ≡ verdicts e f n form W w
unfolding verdicts
same_verdicts d e f n form W w same = each_same (filter (λ i. i % W == w) (range_with_len 0 n))
  where
    one_same : (k : ℕ) → verdict_of d form k ≡ verdict_of e form k
    one_same k = ap (λ deal. record { number = k; accepted = holds form deal; deal = deal }) (same k)

    each_same : (xs : List ℕ) → map (λ i. verdict_of d form (f + i)) xs ≡ map (λ i. verdict_of e form (f + i)) xs
    each_same [] = refl
    each_same (x ∷ xs) = ap (λ v. v ∷ map (λ i. verdict_of d form (f + i)) xs) (one_same (f + x))
        ∙ ap (λ vs. verdict_of e form (f + x) ∷ vs) (each_same xs)

-- a share's candidates are among those of a seed
pub number_below : (W w n first i : ℕ) → w < W → first + n ≤ 2 ^ 40 → i < turns W w n → first + w + i * W < 2 ^ 40
number_below W w n first i lt within below =
    let b = bounds W w n lt in
    let step = scaled W i (turns W w n) below in
    omega arith

-- the verdict of a candidate that is rejected, by what it is dealt from
pub rejected_slot : (seed : ℕ) (fixed : List (Option Seat)) (form : Form) (number : ℕ) (source : PackedView) (slot : SlotView)
    → source ≡ undealt (record { seed = seed; fixed = fixed }) → slot ≡ record { number = number; kept = source }
    → holds form (candidate_around fixed seed number) ≡ false
    → verdict_in slot ≡ verdict_of (candidate_around fixed seed) form number
rejected_slot seed fixed form number source slot source_is slot_is out =
    ap verdict_in slot_is ∙ ap (λ s. verdict_in (record { number = number; kept = s })) source_is
    ∙ verdict_made (candidate_around fixed seed) form number number false (candidate_around fixed seed number) refl refl (sym out)
