-- The items of an array, written one after the other.
use Rattle.std.proofs.Common.{◌≡◌, ◌+◌, ◌-◌, ◌<◌, ◌≤◌, ◌||◌, ◌++◌, ◌∷◌, ◌∙◌, ℕ, Bool, true, false, List, [], Option, refl, sym, ap, subst, arith}
use Rattle.std.specs.List.{flat_map, range_with_len}
use Rattle.sinks.specs.Appended.{AppendsAll, AppendsPart}
use Rattle.statistics.specs.internal.Items.{after, has_some}
use Rattle.statistics.proofs.Parts.{part_more, pieces_more, pieces_split, then_all, then_part}

pub after_more : (any : Bool) (xs y : List ℕ) → after any (xs ++ y) ≡ after any xs ++ after (any || has_some xs) y
after_more true xs y = refl
after_more false [] y = refl
after_more false (x ∷ xs) y = refl

some_more : (any : Bool) (xs y : List ℕ) → (any || has_some (xs ++ y)) ≡ ((any || has_some xs) || has_some y)
some_more true xs y = refl
some_more false [] y = refl
some_more false (x ∷ xs) y = refl

abbrev so_far : (ℕ → List ℕ) → ℕ → ℕ → List ℕ
so_far f first number = flat_map f (range_with_len first (number - first))

-- one more of the items
one_more : (f : ℕ → List ℕ) (any : Bool) (first number : ℕ) → first ≤ number
    → after any (so_far f first (number + 1)) ≡ after any (so_far f first number) ++ after (any || has_some (so_far f first number)) (f number)
one_more f any first number le = ap (after any) (pieces_more f first number le) ∙ after_more any (so_far f first number) (f number)

pub items_more : (old mid new : Option (List ℕ)) (f : ℕ → List ℕ) (any : Bool) (first number : ℕ) → first ≤ number
    → AppendsAll old mid (after any (so_far f first number)) → AppendsAll mid new (after (any || has_some (so_far f first number)) (f number))
    → AppendsAll old new (after any (so_far f first (number + 1)))
items_more old mid new f any first number le a b =
    subst (AppendsAll old new) (sym (one_more f any first number le))
    (then_all old mid new (after any (so_far f first number)) (after (any || has_some (so_far f first number)) (f number)) a b)

pub some_yet : (f : ℕ → List ℕ) (any b c : Bool) (first number : ℕ) → first ≤ number
    → b ≡ (any || has_some (so_far f first number)) → c ≡ (b || has_some (f number))
    → c ≡ (any || has_some (so_far f first (number + 1)))
some_yet f any b c first number le e h =
    h ∙ ap (λ (x : Bool). x || has_some (f number)) e ∙ sym (some_more any (so_far f first number) (f number))
    ∙ ap (λ (xs : List ℕ). any || has_some xs) (sym (pieces_more f first number le))

pub items_broken : (old mid new : Option (List ℕ)) (f : ℕ → List ℕ) (any : Bool) (first number end : ℕ) → first ≤ number → number < end
    → AppendsAll old mid (after any (so_far f first number)) → AppendsPart mid new (after (any || has_some (so_far f first number)) (f number))
    → AppendsPart old new (after any (so_far f first end))
items_broken old mid new f any first number end le lt a b =
    let e : (number + 1 - first) + (end - (number + 1)) ≡ end - first = omega arith in
    let rest : List ℕ = flat_map f (range_with_len (first + (number + 1 - first)) (end - (number + 1))) in
    subst (λ (c : ℕ). AppendsPart old new (after any (flat_map f (range_with_len first c)))) e
    (subst (AppendsPart old new) (sym (ap (after any) (pieces_split f first (number + 1 - first) (end - (number + 1)))
    ∙ after_more any (so_far f first (number + 1)) rest))
    (part_more old new (after any (so_far f first (number + 1))) (after (any || has_some (so_far f first (number + 1))) rest)
    (subst (AppendsPart old new) (sym (one_more f any first number le))
    (then_part old mid new (after any (so_far f first number)) (after (any || has_some (so_far f first number)) (f number)) a b))))
