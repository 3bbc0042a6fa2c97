-- Each kind stands in the list of all, once.
use Rattle.std.proofs.Common.{◌≡◌, ℕ, zero, suc, ◌+◌, ◌&&◌, ◌==◌, Bool, true, List, [], ◌∷◌, Some}
use Rattle.std.proofs.Common.{refl, slice_get, arith}
use Rattle.std.proofs.lemmas.Grind.{common_steps}
use Rattle.cards.specs.declared.hand.Measure.TheVariants.{Hcp}
use Rattle.cards.specs.declared.order.Order.TheVariants.{Longest}
use Rattle.cond_lang.specs.declared.classes.Class.TheVariants.{Suit}
use Rattle.cond_lang.specs.declared.classes.Neighbour.TheVariants.{Left}
use Rattle.cond_lang.specs.declared.classes.Quantifier.TheVariants.{Any}
use Rattle.cond_lang.specs.declared.words.Kind.{Kind}
use Rattle.cond_lang.specs.declared.words.Kind.TheVariants as kind
use Rattle.cond_lang.specs.Kinds.{IsListed, IsListedOnce, all_kinds, place_of}

-- a clause for each table and each class, whose rows the last clause goes through
pub kind_listed : (k : Kind) → IsListed k → slice_get all_kinds (place_of k) ≡ Some k
kind_listed (kind.Name n) l = absurd l
kind_listed (kind.Quantifier Any) l = refl
kind_listed (kind.Measure Hcp) l = refl
kind_listed (kind.Ordered Longest) l = refl
kind_listed (kind.Class Suit) l = refl
kind_listed (kind.Neighbour Left) l = refl
kind_listed k l = refl

-- these kinds have the places from n on, as a test, which computes for the list of all
abbrev are_from : ℕ → List Kind → Bool
are_from n [] = true
are_from n (k ∷ ks) = (place_of k == n) && are_from (suc n) ks

place_in : (n : ℕ) (ks : List Kind) (i : ℕ) (k : Kind) → are_from n ks ≡ true → slice_get ks i ≡ Some k → i + n ≡ place_of k
place_in n [] i k h e = absurd (cc)
place_in n (x ∷ ks) zero k h e = grind (arith, common_steps)
place_in n (x ∷ ks) (suc i) k h e = let more : are_from (suc n) ks ≡ true = grind (arith, common_steps) in let there =
    place_in (suc n) ks i k more e in omega (arith, there)

pub kind_once : (k : Kind) → IsListed k → IsListedOnce k
kind_once k l = (kind_listed k l, λ i e. (let h = place_in 0 all_kinds i k refl e in omega (arith, h)))
