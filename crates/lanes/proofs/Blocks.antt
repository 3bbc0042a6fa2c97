-- The verdicts of a block, and those that were taken before them.
use Rattle.std.proofs.Common.{ℕ, ◌+◌, ◌-◌, ◌≤◌, ◌<◌, ◌≡◌, List, [], ◌∷◌, ◌++◌, length, take, drop, sym, refl, subst}
use Rattle.std.proofs.Common.{◌∙◌, ap, arith, get_or, Bool, true, false}
use Rattle.std.proofs.lemmas.List.{at_drop_more, get_or-take, length-drop, length-take-le, take_at}
use Rattle.std.proofs.lemmas.List.{length-append, append_assoc, length-map, map-append, take-map}
use Rattle.lanes.specs.Slots.{SlotView, verdict_in, verdicts_in}
use Rattle.lanes.specs.declared.verdict.Verdict.{Verdict}
use Rattle.lanes.specs.Prefixes.{IsProperPrefix}
use Rattle.lanes.specs.internal.Rejected.{FirstIsRejected}
use Rattle.lanes.specs.internal.Rings.{without_last}
use Rattle.lanes.proofs.Prefixes.{proper_with}

pub length_part : (s e : ℕ) (xs : List SlotView) → e ≤ length xs → length (drop s (take e xs)) ≡ e - s
length_part s e xs le = length-drop s (take e xs) ∙ ap (λ n. n - s) (length-take-le e xs le)

-- the first verdict of a part, and those after it
pub part_from : (s e : ℕ) (xs : List SlotView) (v w : SlotView) → s < e → e ≤ length xs → v ≡ get_or xs s w
    → drop s (take e xs) ≡ v ∷ drop (s + 1) (take e xs)
part_from s e xs v w lt le is =
    let inside : s < length (take e xs) = rw (length-take-le e xs le) lt in
    at_drop_more (λ rest. rest) (take e xs) s w inside
    ∙ ap (λ first. first ∷ drop (s + 1) (take e xs)) (get_or-take e xs s w lt ∙ sym is)

-- what comes before a list's last items
pub before_last : (zs xs ys : List SlotView) → zs ≡ xs ++ ys → without_last (length ys) zs ≡ xs
before_last zs xs ys e =
    let n : length zs - length ys ≡ length xs = omega (arith, ap length e, length-append xs ys) in
    ap (λ k. take k zs) n ∙ ap (take (length xs)) e ∙ take_at xs ys (length xs) refl

-- the first verdict of a block follows those that were taken before
pub first_is_next : (received block rest : List SlotView) (v : SlotView)
    → received ≡ without_last (length block) received ++ block → block ≡ v ∷ rest
    → received ≡ (without_last (length block) received ++ v ∷ []) ++ rest
first_is_next received block rest v is first =
    is ∙ ap (λ b. without_last (length block) received ++ b) first ∙ sym (append_assoc (without_last (length block) received) (v ∷ []) rest)

pub taken_with_first : (received block rest : List SlotView) (v : SlotView)
    → received ≡ without_last (length block) received ++ block → block ≡ v ∷ rest
    → without_last (length rest) received ≡ without_last (length block) received ++ v ∷ []
taken_with_first received block rest v is first =
    before_last received (without_last (length block) received ++ v ∷ []) rest (first_is_next received block rest v is first)

pub rest_is_last : (received block rest : List SlotView) (v : SlotView)
    → received ≡ without_last (length block) received ++ block → block ≡ v ∷ rest
    → received ≡ without_last (length rest) received ++ rest
rest_is_last received block rest v is first =
    first_is_next received block rest v is first
    ∙ ap (λ xs. xs ++ rest) (sym (taken_with_first received block rest v is first))

-- ---- a rejected candidate's verdict may have been taken out of a block
pub still_last : (b : Bool) (received block rest : List SlotView)
    → received ≡ without_last (length block) received ++ block → (b ≡ true → FirstIsRejected block rest) → (b ≡ false → rest ≡ block)
    → received ≡ without_last (length rest) received ++ rest
still_last true received block rest is took _ = let t = took refl in rest_is_last received block rest t.first is t.rest
still_last false received block rest is _ same = subst (λ xs. received ≡ without_last (length xs) received ++ xs) (sym (same refl)) is

-- ---- the verdicts of slots
pub verdicts-more : (slots : List SlotView) (slot : SlotView) → verdicts_in (slots ++ slot ∷ []) ≡ verdicts_in slots ++ verdict_in slot ∷ []
verdicts-more slots slot = map-append verdict_in slots (slot ∷ [])

-- a list with the verdicts of a part of the slots is a beginning of it with those of all
pub proper_with_slots : (xs ys : List Verdict) (slots : List SlotView) (i : ℕ) → xs ≡ ys ++ verdicts_in (take i slots)
    → i < length slots → IsProperPrefix xs (ys ++ verdicts_in slots)
proper_with_slots xs ys slots i is below =
    proper_with xs ys (verdicts_in slots) i (is ∙ ap (λ zs. ys ++ zs) (sym (take-map verdict_in i slots))) (rw (length-map slots verdict_in) below)
