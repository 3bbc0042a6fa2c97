-- A sorted list of four lengths is one of three lists exactly where some rearrangement is.
use Rattle.std.proofs.Common.{◌≡◌, ℕ, zero, suc, ◌+◌, ◌≤◌, ◌≢◌, ◌⊎◌, ◌↔◌, inl, inr, Bool, true, false, ◌||◌, List, [], ◌∷◌, length, refl, sym, arith}
use Rattle.std.specs.Prelude.{IsTrue}
use Rattle.std.specs.List.{All, Contains, sum_by}
use Rattle.std.specs.List.Sorted.{IsPermutation, IsSorted}
use Rattle.std.specs.Ordering.{nat_cmp, is_lt}
use Rattle.std.proofs.lemmas.Bool.Decides.{nat_tests}
use Rattle.std.proofs.lemmas.List.Elements.{All-get_or, All-contains}
use Rattle.std.proofs.lemmas.List.Sorted.{IsPermutation-sym, IsPermutation-trans, IsPermutation-reverse}
use Rattle.std.proofs.lemmas.List.Sorted.{All-permutation, Contains-permutation, sum_by-IsPermutation}
use Rattle.cards.specs.Hands.{is_rearrangement, is_balanced}
use Rattle.cards.specs.Balanced.{IsBalanced}
use Rattle.cards.specs.internal.BalancedInOrder.{IsBalancedInOrder}
use Rattle.cards.proofs.Rearranging.{rearrangement_is_permutation}

-- what four numbers in another order keep: the sum, and bounds
sum_kept : (xs : List ℕ) (a b c d : ℕ) → IsPermutation xs (a ∷ b ∷ c ∷ d ∷ []) → sum_by (λ x. x) xs ≡ a + b + c + d
sum_kept xs a b c d h = omega (arith, sum_by-IsPermutation (λ x. x) xs (a ∷ b ∷ c ∷ d ∷ []) h)

within : (low high : ℕ) (xs : List ℕ) (a b c d : ℕ) → IsPermutation xs (a ∷ b ∷ c ∷ d ∷ [])
    → All (λ x. (low ≤ x) × (x ≤ high)) xs → ((low ≤ a) × (a ≤ high)) × ((low ≤ b) × (b ≤ high))
    × ((low ≤ c) × (c ≤ high)) × ((low ≤ d) × (d ≤ high))
within low high xs a b c d h all =
    let there = All-permutation (λ x. (low ≤ x) × (x ≤ high)) xs (a ∷ b ∷ c ∷ d ∷ []) h all in (
      All-get_or (λ x. (low ≤ x) × (x ≤ high)) (a ∷ b ∷ c ∷ d ∷ []) 0 0 (omega arith) there,
      All-get_or (λ x. (low ≤ x) × (x ≤ high)) (a ∷ b ∷ c ∷ d ∷ []) 1 0 (omega arith) there,
      All-get_or (λ x. (low ≤ x) × (x ≤ high)) (a ∷ b ∷ c ∷ d ∷ []) 2 0 (omega arith) there,
      All-get_or (λ x. (low ≤ x) × (x ≤ high)) (a ∷ b ∷ c ∷ d ∷ []) 3 0 (omega arith) there,
    )

four : (a b c d p q r s : ℕ) → a ≡ p → b ≡ q → c ≡ r → d ≡ s → (a ∷ b ∷ c ∷ d ∷ []) ≡ (p ∷ q ∷ r ∷ s ∷ [])
four a b c d p q r s e f g h = cc

all4 : (P : ℕ → Type 0) (a b c e : ℕ) → P a → P b → P c → P e → All P (a ∷ b ∷ c ∷ e ∷ [])
all4 P a b c e pa pb pc pe zero d h = pa
all4 P a b c e pa pb pc pe (suc zero) d h = pb
all4 P a b c e pa pb pc pe (suc (suc zero)) d h = pc
all4 P a b c e pa pb pc pe (suc (suc (suc zero))) d h = pe
all4 P a b c e pa pb pc pe (suc (suc (suc (suc k)))) d h = absurd (omega arith)

all_flat : All (λ x. (3 ≤ x) × (x ≤ 4)) (4 ∷ 3 ∷ 3 ∷ 3 ∷ [])
all_flat = all4 (λ x. (3 ≤ x) × (x ≤ 4)) 4 3 3 3 (omega arith, omega arith) (omega arith, omega arith)
    (omega arith, omega arith) (omega arith, omega arith)

flat : (a b c d : ℕ) → a ≤ b → b ≤ c → c ≤ d → IsPermutation (4 ∷ 3 ∷ 3 ∷ 3 ∷ []) (a ∷ b ∷ c ∷ d ∷ []) → (a ∷ b ∷ c ∷ d ∷ []) ≡ (3 ∷ 3 ∷ 3 ∷ 4 ∷ [])
flat a b c d p q r h =
    let w = within 3 4 (4 ∷ 3 ∷ 3 ∷ 3 ∷ []) a b c d h all_flat in
    let s : 13 ≡ a + b + c + d = sum_kept (4 ∷ 3 ∷ 3 ∷ 3 ∷ []) a b c d h in
    four a b c d 3 3 3 4 (omega (arith, w.0, w.1, w.2, w.3)) (omega (arith, w.0, w.1, w.2, w.3))
    (omega (arith, w.0, w.1, w.2, w.3)) (omega (arith, w.0, w.1, w.2, w.3))

-- the least and the greatest
ends : (xs : List ℕ) (a b c d low high : ℕ) → a ≤ b → b ≤ c → c ≤ d → Contains xs low → Contains xs high
    → IsPermutation xs (a ∷ b ∷ c ∷ d ∷ []) → (a ≤ low) × (high ≤ d)
ends xs a b c d low high p q r l g h = (
  All-contains (λ x. a ≤ x) (a ∷ b ∷ c ∷ d ∷ []) low (all4 (λ x. a ≤ x) a b c d (omega arith) (omega arith)
      (omega arith) (omega arith)) (Contains-permutation xs (a ∷ b ∷ c ∷ d ∷ []) low h l),
  All-contains (λ x. x ≤ d) (a ∷ b ∷ c ∷ d ∷ []) high (all4 (λ x. x ≤ d) a b c d (omega arith) (omega arith)
      (omega arith) (omega arith)) (Contains-permutation xs (a ∷ b ∷ c ∷ d ∷ []) high h g),
)

pairs : (a b c d : ℕ) → a ≤ b → b ≤ c → c ≤ d → IsPermutation (4 ∷ 4 ∷ 3 ∷ 2 ∷ []) (a ∷ b ∷ c ∷ d ∷ []) → (a ∷ b ∷ c ∷ d ∷ []) ≡ (2 ∷ 3 ∷ 4 ∷ 4 ∷ [])
pairs a b c d p q r h =
    let w = within 2 4 (4 ∷ 4 ∷ 3 ∷ 2 ∷ []) a b c d h (all4 (λ x. (2 ≤ x) × (x ≤ 4)) 4 4 3 2
    (omega arith, omega arith) (omega arith, omega arith) (omega arith, omega arith) (omega arith, omega arith))
    in
    let s : 13 ≡ a + b + c + d = sum_kept (4 ∷ 4 ∷ 3 ∷ 2 ∷ []) a b c d h in
    let e = ends (4 ∷ 4 ∷ 3 ∷ 2 ∷ []) a b c d 2 4 p q r (3, omega arith, refl) (0, omega arith, refl) h in
    four a b c d 2 3 4 4 (omega (arith, w.0, e.0)) (omega (arith, w.0, w.1, w.2, w.3, e.0))
    (omega (arith, w.0, w.1, w.2, w.3, e.0)) (omega (arith, w.3, e.1))

fives : (a b c d : ℕ) → a ≤ b → b ≤ c → c ≤ d → IsPermutation (5 ∷ 3 ∷ 3 ∷ 2 ∷ []) (a ∷ b ∷ c ∷ d ∷ []) → (a ∷ b ∷ c ∷ d ∷ []) ≡ (2 ∷ 3 ∷ 3 ∷ 5 ∷ [])
fives a b c d p q r h =
    let w = within 2 5 (5 ∷ 3 ∷ 3 ∷ 2 ∷ []) a b c d h (all4 (λ x. (2 ≤ x) × (x ≤ 5)) 5 3 3 2
    (omega arith, omega arith) (omega arith, omega arith) (omega arith, omega arith) (omega arith, omega arith))
    in
    let s : 13 ≡ a + b + c + d = sum_kept (5 ∷ 3 ∷ 3 ∷ 2 ∷ []) a b c d h in
    let e = ends (5 ∷ 3 ∷ 3 ∷ 2 ∷ []) a b c d 2 5 p q r (3, omega arith, refl) (0, omega arith, refl) h in
    let not4 = All-permutation (λ x. x ≢ 4) (5 ∷ 3 ∷ 3 ∷ 2 ∷ []) (a ∷ b ∷ c ∷ d ∷ []) h
    (all4 (λ x. x ≢ 4) 5 3 3 2 (omega arith) (omega arith) (omega arith) (omega arith)) in
    let c4 : c ≢ 4 = All-get_or (λ x. x ≢ 4) (a ∷ b ∷ c ∷ d ∷ []) 2 0 (omega arith) not4 in
    four a b c d 2 3 3 5 (omega (arith, w.0, e.0)) (omega (arith, w.0, w.1, w.2, w.3, e.0, e.1, c4))
    (omega (arith, w.0, w.1, w.2, w.3, e.0, e.1, c4)) (omega (arith, w.3, e.1))

le_from : {x y : ℕ} → is_lt (nat_cmp y x) ≡ false → x ≤ y
le_from {x} {y} h = grind (arith, nat_tests)

in_order_from_balanced : (shape sorted : List ℕ) → length sorted ≡ 4 → IsPermutation shape sorted
    → IsSorted nat_cmp sorted → IsBalanced shape → IsBalancedInOrder sorted
in_order_from_balanced shape (a ∷ b ∷ c ∷ d ∷ []) count moved up h =
    let p : a ≤ b = le_from (up 0 0 (omega arith) (omega arith)) in
    let q : b ≤ c = le_from (up 1 0 (omega arith) (omega arith)) in
    let r : c ≤ d = le_from (up 2 0 (omega arith) (omega arith)) in
    elim h [
      | inl x ↦ inl (flat a b c d p q r (IsPermutation-trans _ _ _ (IsPermutation-sym _ _ x) moved))
      | inr y ↦ inr (elim y [
        | inl x ↦ inl (pairs a b c d p q r (IsPermutation-trans _ _ _ (IsPermutation-sym _ _ x) moved))
        | inr x ↦ inr (fives a b c d p q r (IsPermutation-trans _ _ _ (IsPermutation-sym _ _ x) moved))
      ])
    ]
in_order_from_balanced shape [] count moved up h = absurd (omega arith)
in_order_from_balanced shape (a ∷ []) count moved up h = absurd (omega arith)
in_order_from_balanced shape (a ∷ b ∷ []) count moved up h = absurd (omega arith)
in_order_from_balanced shape (a ∷ b ∷ c ∷ []) count moved up h = absurd (omega arith)
in_order_from_balanced shape (a ∷ b ∷ c ∷ d ∷ e ∷ xs) count moved up h = absurd (omega arith)

balanced_from_order : (shape sorted : List ℕ) → IsPermutation shape sorted → IsBalancedInOrder sorted → IsBalanced shape
balanced_from_order shape sorted moved h =
    elim h [
      | inl e ↦ inl (IsPermutation-trans _ _ _ (rw e at moved) (IsPermutation-reverse (3 ∷ 3 ∷ 3 ∷ 4 ∷ [])))
      | inr y ↦ inr (elim y [
        | inl e ↦ inl (IsPermutation-trans _ _ _ (rw e at moved) (IsPermutation-reverse (2 ∷ 3 ∷ 4 ∷ 4 ∷ [])))
        | inr e ↦ inr (IsPermutation-trans _ _ _ (rw e at moved) (IsPermutation-reverse (2 ∷ 3 ∷ 3 ∷ 5 ∷ [])))
      ])
    ]

one_of_three : (a b c : Bool) → (a || b || c) ≡ true → (a ≡ true) ⊎ (b ≡ true) ⊎ (c ≡ true)
one_of_three true b c h = inl refl
one_of_three false true c h = inr (inl refl)
one_of_three false false c h = inr (inr h)

first_of_three : (a b c : Bool) → a ≡ true → (a || b || c) ≡ true
first_of_three a b c h = rw h refl

second_of_three : (a b c : Bool) → b ≡ true → (a || b || c) ≡ true
second_of_three true b c h = refl
second_of_three false b c h = rw h refl

third_of_three : (a b c : Bool) → c ≡ true → (a || b || c) ≡ true
third_of_three true b c h = refl
third_of_three false true c h = refl
third_of_three false false c h = h

same_truth : (a b : Bool) → (a ≡ true → b ≡ true) → (b ≡ true → a ≡ true) → a ≡ b
same_truth true b f g = sym (f refl)
same_truth false true f g = g refl
same_truth false false f g = refl

balanced_from_test : (shape : List ℕ) → is_balanced shape ≡ true → IsBalanced shape
balanced_from_test shape h =
    elim (one_of_three (is_rearrangement shape (4 ∷ 3 ∷ 3 ∷ 3 ∷ [])) (is_rearrangement shape (4 ∷ 4 ∷ 3 ∷ 2 ∷ []))
    (is_rearrangement shape (5 ∷ 3 ∷ 3 ∷ 2 ∷ [])) h) [
      | inl e ↦ inl ((rearrangement_is_permutation shape (4 ∷ 3 ∷ 3 ∷ 3 ∷ [])).0 e)
      | inr y ↦ inr (elim y [
        | inl e ↦ inl ((rearrangement_is_permutation shape (4 ∷ 4 ∷ 3 ∷ 2 ∷ [])).0 e)
        | inr e ↦ inr ((rearrangement_is_permutation shape (5 ∷ 3 ∷ 3 ∷ 2 ∷ [])).0 e)
      ])
    ]

test_from_balanced : (shape : List ℕ) → IsBalanced shape → is_balanced shape ≡ true
test_from_balanced shape h =
    elim h [
      | inl p ↦ first_of_three (is_rearrangement shape (4 ∷ 3 ∷ 3 ∷ 3 ∷ []))
          (is_rearrangement shape (4 ∷ 4 ∷ 3 ∷ 2 ∷ [])) (is_rearrangement shape (5 ∷ 3 ∷ 3 ∷ 2 ∷ []))
          ((rearrangement_is_permutation shape (4 ∷ 3 ∷ 3 ∷ 3 ∷ [])).1 p)
      | inr y ↦ elim y [
        | inl p ↦ second_of_three (is_rearrangement shape (4 ∷ 3 ∷ 3 ∷ 3 ∷ []))
            (is_rearrangement shape (4 ∷ 4 ∷ 3 ∷ 2 ∷ [])) (is_rearrangement shape (5 ∷ 3 ∷ 3 ∷ 2 ∷ []))
            ((rearrangement_is_permutation shape (4 ∷ 4 ∷ 3 ∷ 2 ∷ [])).1 p)
        | inr p ↦ third_of_three (is_rearrangement shape (4 ∷ 3 ∷ 3 ∷ 3 ∷ []))
            (is_rearrangement shape (4 ∷ 4 ∷ 3 ∷ 2 ∷ [])) (is_rearrangement shape (5 ∷ 3 ∷ 3 ∷ 2 ∷ []))
            ((rearrangement_is_permutation shape (5 ∷ 3 ∷ 3 ∷ 2 ∷ [])).1 p)
      ]
    ]

-- the test and the fact
pub balanced_is : (shape : List ℕ) → IsTrue (is_balanced shape) ↔ IsBalanced shape
balanced_is shape = (balanced_from_test shape, test_from_balanced shape)

-- a test of the sorted lengths is the test of the shape
pub balanced_by_sorting : (shape sorted : List ℕ) (answer : Bool) → length sorted ≡ 4 → IsPermutation shape sorted
    → IsSorted nat_cmp sorted → (answer ≡ true → IsBalancedInOrder sorted)
    × (IsBalancedInOrder sorted → answer ≡ true) → answer ≡ is_balanced shape
balanced_by_sorting shape sorted answer count moved up test =
    same_truth answer (is_balanced shape)
    (λ e. test_from_balanced shape (balanced_from_order shape sorted moved (test.0 e)))
    (λ b. test.1 (in_order_from_balanced shape sorted count moved up (balanced_from_test shape b)))
