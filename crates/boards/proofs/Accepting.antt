-- The accepted ones among more and more candidates, and where a limit of them is met.
use Rattle.std.proofs.Common.{◌≡◌, ℕ, ◌+◌, ◌==◌, ◌<◌, ◌≤◌, ◌⊎◌, Bool, true, length, get_or, Option, Some, None, refl, sym, ◌∙◌, ap, arith, inl, inr}
use Rattle.std.specs.List.{range_with_len, position_or_len}
use Rattle.std.specs.Option.{ForSome}
use Rattle.std.proofs.lemmas.Bool.{cases_lt, ne_eqb, eq-eqb, eqb-true}
use Rattle.std.proofs.lemmas.List.Sums.{position_or_len_is, passes_at_first}
use Rattle.std.proofs.lemmas.List.FromFn.{length-range_with_len, get_or-range_with_len}
use Rattle.conditions.specs.Form.{Form}
use Rattle.boards.specs.Plans.{Planned, candidate_of}
use Rattle.boards.specs.Text.{accepted_among, limited, end_of, needed_by}
use Rattle.boards.proofs.BoardLists.{IsWithin, limited-all, limited-full, accepted_among-parts}

module _ (p : Planned) (form : Form) (t : ℕ) (le : t ≤ p.count) where
  abbrev counted : ℕ → ℕ
  counted i = length (accepted_among (candidate_of p) p.first form i)

  abbrev IsShort : Option ℕ → Type 0
  IsShort limit = (i : ℕ) → i < t → ForSome limit (λ most. counted i < most)

  -- all candidates were needed, or the limit is met
  abbrev IsEnd : Option ℕ → Type 0
  IsEnd limit = (t ≡ p.count) ⊎ (limit ≡ Some (counted t))

  ends_none : IsEnd None → end_of (record p { limit = None }) form ≡ t
  unfolding needed_by
  ends_none (inl e) = sym e
  ends_none (inr e) = absurd (cc)

  met : (most : ℕ) → IsEnd (Some most) → t < p.count → counted t ≡ most
  met most (inl e) lt = absurd (omega arith)
  met most (inr e) lt = cc

  ends_some : (most : ℕ) → IsShort (Some most) → IsEnd (Some most) → end_of (record p { limit = Some most }) form ≡ t
  unfolding needed_by
  ends_some most short ended =
      let long : length (range_with_len 0 p.count) ≡ p.count = length-range_with_len 0 p.count in
      let test : ℕ → Bool = λ m. counted m == most in
      let at : (k : ℕ) → k < p.count → get_or (range_with_len 0 p.count) k 0 ≡ k =
      λ k lt. get_or-range_with_len 0 p.count k 0 lt ∙ (let e : 0 + k ≡ k = omega arith in e) in
      position_or_len_is test (range_with_len 0 p.count) t 0 (omega (arith, le, long))
      (λ k lt. ap test (at k (omega (arith, le, lt))) ∙ ne_eqb (counted k) most
      (λ e. let less : counted k < most = short k lt most refl in omega arith))
      (λ lt. ap test (at t (omega (arith, lt, long))) ∙ eq-eqb (counted t) most (met most ended (omega (arith, lt, long))))

  end_is : (limit : Option ℕ) → IsShort limit → IsEnd limit → end_of (record p { limit = limit }) form ≡ t
  end_is None short ended = ends_none ended
  end_is (Some most) short ended = ends_some most short ended

  needed_some : (most : ℕ) → IsShort (Some most) → t ≤ end_of (record p { limit = Some most }) form
  unfolding needed_by
  needed_some most short =
      let long : length (range_with_len 0 p.count) ≡ p.count = length-range_with_len 0 p.count in
      let test : ℕ → Bool = λ m. counted m == most in
      let first : ℕ = position_or_len test (range_with_len 0 p.count) in
      elim (cases_lt first t) [
        | inl before ↦
            let passes : test (get_or (range_with_len 0 p.count) first 0) ≡ true =
            passes_at_first test (range_with_len 0 p.count) 0 (omega (arith, before, le, long)) in
            let here : get_or (range_with_len 0 p.count) first 0 ≡ 0 + first = get_or-range_with_len 0 p.count first 0 (omega (arith, before, le)) in
            let same : 0 + first ≡ first = omega arith in
            let is : counted first ≡ most = eqb-true (counted first) most (sym (ap test (here ∙ same)) ∙ passes) in
            let less : counted first < most = short first before most refl in
            absurd (omega arith)
        | inr not_before ↦ not_before
      ]

  needed_none : t ≤ end_of (record p { limit = None }) form
  unfolding needed_by
  needed_none = le

  needed : (limit : Option ℕ) → IsShort limit → t ≤ end_of (record p { limit = limit }) form
  needed None short = needed_none
  needed (Some most) short = needed_some most short

  pub end_here : IsShort p.limit → IsEnd p.limit → end_of p form ≡ t
  end_here short ended = end_is p.limit short ended

  pub needed_here : IsShort p.limit → t ≤ end_of p form
  needed_here short = needed p.limit short

  pub accepted_here : IsWithin p.limit (counted t) → IsEnd p.limit
      → limited p.limit (accepted_among (candidate_of p) p.first form p.count) ≡ accepted_among (candidate_of p)
      p.first form t
  accepted_here within (inl e) = ap (λ n. limited p.limit (accepted_among (candidate_of p) p.first form n)) (sym e)
      ∙ limited-all p.limit (accepted_among (candidate_of p) p.first form t) within
  accepted_here within (inr full) =
      let split = accepted_among-parts (candidate_of p) p.first form t p.count le in
      ap (limited p.limit) split.is ∙ limited-full p.limit (accepted_among (candidate_of p) p.first form t) split.rest full
