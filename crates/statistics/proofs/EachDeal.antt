-- A deal is counted for each of several questions.
use Rattle.std.proofs.Common.{◌≡◌, ◌+◌, ◌<◌, ◌≤◌, ◌++◌, ◌∷◌, ◌∙◌, ℕ, suc, List, [], All, get_or, length, map, take, refl, sym, ap, ap₂, subst, arith}
use Rattle.std.proofs.Math.Seq.{take-append_seam}
use Rattle.cards.specs.declared.seat.Seat.{Seat}
use Rattle.statistics.specs.Answers.{answers_of}
use Rattle.statistics.specs.Counting.{TitledQuestion}
use Rattle.statistics.specs.internal.Kept.{CountsEach, CountsOne, IsCounted, KeptEach, KeptOne}

-- each question has counted the deal
pub record HaveCounted (deal : List Seat) (olds news : List KeptOne) : Type 0 where
  pub same : length news ≡ length olds
  pub each : (k : ℕ) (d : KeptOne) → k < length olds → IsCounted deal (get_or olds k d) (get_or news k d)

pub same_asked : (deal : List Seat) (olds news : List KeptOne) → HaveCounted deal olds news
    → map (λ (o : KeptOne). o.asked) news ≡ map (λ (o : KeptOne). o.asked) olds
same_asked deal [] [] h = refl
same_asked deal [] (n ∷ news) h = absurd (omega (arith, h.same))
same_asked deal (o ∷ olds) [] h = absurd (omega (arith, h.same))
same_asked deal (o ∷ olds) (n ∷ news) h =
    ap₂ (λ (a : TitledQuestion) (rest : List TitledQuestion). a ∷ rest) (h.each 0 o (omega arith)).asked
    (same_asked deal olds news (record { same = omega (arith, h.same); each = λ k d lt. h.each (suc k) d (omega (arith, lt)) }))

pub all_alike : (deal : List Seat) (olds news : List KeptOne) (n : ℕ) → HaveCounted deal olds news
    → All (λ (o : KeptOne). o.sums.deals ≡ n) olds → All (λ (o : KeptOne). o.sums.deals ≡ n + 1) news
all_alike deal olds news n h alike k d lt =
    let within : k < length olds = omega (arith, h.same, lt) in
    (h.each k d within).number ∙ ap (λ (m : ℕ). m + 1) (alike k d within)

pub all_counted : (deal : List Seat) (olds news : List KeptOne) (deals : List (List Seat)) → HaveCounted deal olds news
    → All (λ (o : KeptOne). CountsOne o (answers_of o.asked.question deals)) olds
    → All (λ (o : KeptOne). CountsOne o (answers_of o.asked.question (deals ++ deal ∷ []))) news
all_counted deal olds news deals h counts k d lt =
    let within : k < length olds = omega (arith, h.same, lt) in
    let one = h.each k d within in
    subst (λ (a : TitledQuestion). CountsOne (get_or news k d) (answers_of a.question (deals ++ deal ∷ []))) (sym one.asked)
    (one.counted deals (counts k d within))

pub written : (xs ys : List KeptOne) (n : ℕ) → length xs ≡ n → take n (xs ++ ys) ≡ xs
written xs ys n e = subst (λ (k : ℕ). take k (xs ++ ys) ≡ xs) e (take-append_seam xs ys)
