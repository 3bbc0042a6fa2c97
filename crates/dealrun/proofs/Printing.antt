-- Lists that are gone through in turn, as they grow.
use Rattle.std.proofs.Common.{◌≡◌, ℕ, zero, suc, ◌+◌, ◌/◌, ◌%◌, ◌<◌, ◌≤◌, List, [], ◌∷◌, ◌++◌, length, get_or, set}
use Rattle.std.proofs.Common.{Some, refl, sym, ◌∙◌, ap, arith, inl, inr, length-append}
use Rattle.std.specs.List.{range_with_len, filter_map, cons_option, slice_get}
use Rattle.std.proofs.lemmas.Bool.{cases_eq}
use Rattle.std.proofs.lemmas.List.{get_or-set_same, get_or-set_other}
use Rattle.std.proofs.lemmas.List.Elements.{filter_map-append}
use Rattle.std.proofs.lemmas.Option.{slice_get-get_or}
use Rattle.std.proofs.Math.ListN.{get_or-append}
use Rattle.std.proofs.Math.Seq.{get_or-append_seam}
use Rattle.lanes.specs.declared.verdict.Verdict.{Verdict}
use Rattle.lanes.specs.Verdicts.{turns}
use Rattle.lanes.proofs.Places.{range-more, count_even, turns_less}
use Rattle.dealrun.specs.MergedVerdicts.{at_turn, in_turn}

pub in_turn-none : (W : ℕ) (lists : List (List Verdict)) → in_turn W lists 0 ≡ []
unfolding in_turn
in_turn-none W lists = refl

pub in_turn-more : (W : ℕ) (lists : List (List Verdict)) (m : ℕ) → in_turn W lists (suc m) ≡ in_turn W lists m ++ cons_option (at_turn W lists m) []
unfolding in_turn
in_turn-more W lists m = ap (filter_map (at_turn W lists)) (range-more m) ∙ filter_map-append (at_turn W lists) (range_with_len 0 m) (m ∷ [])

pub in_turn-same : (W : ℕ) (lists lists' : List (List Verdict)) (m : ℕ)
    → ((i : ℕ) → i < m → at_turn W lists i ≡ at_turn W lists' i) → in_turn W lists m ≡ in_turn W lists' m
in_turn-same W lists lists' zero h = in_turn-none W lists ∙ sym (in_turn-none W lists')
in_turn-same W lists lists' (suc m) h =
    let before = in_turn-same W lists lists' m (λ i lt. h i (omega arith)) in
    in_turn-more W lists m ∙ ap (λ vs. vs ++ cons_option (at_turn W lists m) []) before
    ∙ ap (λ o. in_turn W lists' m ++ cons_option o []) (h m (omega arith)) ∙ sym (in_turn-more W lists' m)

-- one verdict more stands at the end of the list whose turn it is
module _ (W : ℕ) (lists : List (List Verdict)) (t : ℕ) (v : Verdict) (some : 0 < W) (long : length lists ≡ W)
    (counted : (w : ℕ) → w < W → length (get_or lists w []) ≡ turns W w t) where
  abbrev old : List Verdict
  old = get_or lists (t % W) []

  abbrev pub grown : List (List Verdict)
  grown = set lists (t % W) (old ++ v ∷ [])

  inside : t % W < length lists
  inside = omega (arith, some, long)

  old_long : length old ≡ t / W
  old_long = counted (t % W) (omega (arith, some)) ∙ count_even W (t % W) t (omega (arith, some)) (omega arith)

  grown_here : (w : ℕ) → w ≡ t % W → get_or grown w [] ≡ old ++ v ∷ []
  grown_here w e = ap (λ k. get_or grown k []) e ∙ get_or-set_same lists (t % W) (old ++ v ∷ []) [] inside

  before_end : (xs : List Verdict) (k : ℕ) → k < length xs → slice_get (xs ++ v ∷ []) k ≡ slice_get xs k
  before_end xs k lt =
      let wide : k < length (xs ++ v ∷ []) = omega (arith, length-append xs (v ∷ [])) in
      slice_get-get_or (xs ++ v ∷ []) k v wide ∙ ap (λ x. Some x) (get_or-append xs (v ∷ []) v k lt) ∙ sym (slice_get-get_or xs k v lt)

  pub kept : (i : ℕ) → i < t → at_turn W grown i ≡ at_turn W lists i
  kept i lt =
      let rem : i % W < W = omega (arith, some) in
      let less : turns W (i % W) i < turns W (i % W) t → i / W < turns W (i % W) t =
      λ h. omega (arith, h, count_even W (i % W) i rem (omega arith)) in
      elim (cases_eq (i % W) (t % W)) [
        | inl e ↦
            let below : i / W < length old = omega (arith, less (turns_less_to e rem), counted_here e) in
            ap (λ xs. slice_get xs (i / W)) (grown_here (i % W) e) ∙ before_end old (i / W) below
            ∙ ap (λ w. slice_get (get_or lists w []) (i / W)) (sym e)
        | inr ne ↦ ap (λ xs. slice_get xs (i / W)) (get_or-set_other lists (t % W) (i % W) (old ++ v ∷ []) [] ne)
      ]
    where
      turns_less_to : i % W ≡ t % W → i % W < W → turns W (i % W) i < turns W (i % W) t
      turns_less_to e rem = turns_less W (i % W) i t rem refl lt

      counted_here : i % W ≡ t % W → length old ≡ turns W (i % W) t
      counted_here e = counted (t % W) (omega (arith, some)) ∙ ap (λ w. turns W w t) (sym e)

  pub new_last : at_turn W grown t ≡ Some v
  new_last =
      let wide : t / W < length (old ++ v ∷ []) = omega (arith, length-append old (v ∷ []), old_long) in
      ap (λ xs. slice_get xs (t / W)) (grown_here (t % W) refl) ∙ slice_get-get_or (old ++ v ∷ []) (t / W) v wide
      ∙ ap (λ k. Some (get_or (old ++ v ∷ []) k v)) (sym old_long) ∙ ap (λ x. Some x) (get_or-append_seam old v [] v)

  pub in_turn-kept : (m : ℕ) → m ≤ t → in_turn W grown m ≡ in_turn W lists m
  in_turn-kept m le = in_turn-same W grown lists m (λ i lt. kept i (omega arith))

  pub in_turn-grown : in_turn W grown (t + 1) ≡ in_turn W lists t ++ v ∷ []
  in_turn-grown =
      let s : t + 1 ≡ suc t = omega arith in
      ap (in_turn W grown) s ∙ in_turn-more W grown t ∙ ap (λ vs. vs ++ cons_option (at_turn W grown t) []) (in_turn-kept t (omega arith))
      ∙ ap (λ o. in_turn W lists t ++ cons_option o []) new_last
