-- The masks and the list that are kept of fixed cards.
use Rattle.std.proofs.Common.{◌≡◌, ℕ, ◌+◌, ◌*◌, ◌%◌, ◌^◌, ◌<◌, ◌≤◌, ◌≢◌, Bool, true, false, cond, List, length, take}
use Rattle.std.proofs.Common.{replicate, get_or, set, sym, ap, ◌∙◌, arith, inl, inr, ◌⊎◌}
use Rattle.std.specs.Prelude.{Option}
use Rattle.std.specs.List.{count_by}
use Rattle.std.specs.Int.Bits.{bit_or}
use Rattle.std.proofs.lemmas.Nat.{one_shl}
use Rattle.std.proofs.lemmas.Bool.{cases_lt}
use Rattle.std.proofs.lemmas.List.{get_or-replicate, get_or_past, get_or-set_same, get_or-set_other}
use lib.Lanes.{mask_l}
use Rattle.cards.specs.declared.seat.Seat.{Seat}
use Rattle.cards.specs.Fixed.{is_free, free_index}
use Rattle.cards.specs.internal.Around.{IsListed, fixed_at}
use Rattle.cards.proofs.Drawing.{set_more}
use Rattle.cards.proofs.DealMasks.{mask_more, mask_step}

pub bit_taken : (cards : List Bool) (i mask new : ℕ) → i < length cards → i < 64 → mask ≡ mask_l (take i cards) → get_or cards i false ≡ true
    → new ≡ bit_or mask (1 * 2 ^ i % 2 ^ 64) → new ≡ mask_l (take (i + 1) cards)
bit_taken cards i mask new inside small e test is =
    let held : cond (get_or cards i false) (2 ^ i) 0 ≡ 2 ^ i = ap (λ b. cond b (2 ^ i) 0) test in
    let joined : bit_or mask (1 * 2 ^ i % 2 ^ 64) ≡ mask + 2 ^ i = ap (bit_or mask) (one_shl i 64 small) ∙ mask_more cards i mask inside e in
    omega (arith, is, joined, e, held, mask_step cards i inside)

pub bit_passed : (cards : List Bool) (i mask new : ℕ) → i < length cards → mask ≡ mask_l (take i cards)
    → get_or cards i false ≡ false → new ≡ mask → new ≡ mask_l (take (i + 1) cards)
bit_passed cards i mask new inside e test is =
    let none : cond (get_or cards i false) (2 ^ i) 0 ≡ 0 = ap (λ b. cond b (2 ^ i) 0) test in
    omega (arith, is, e, none, mask_step cards i inside)

zeros_below : (i : ℕ) → get_or (replicate 52 0) i 0 < 52
zeros_below i = elim (cases_lt i 52) [
  | inl h ↦ rw (get_or-replicate {A = ℕ} 52 i 0 0 h) (omega arith)
  | inr h ↦ rw (get_or_past {X = ℕ} (replicate 52 0) i 0 (omega arith)) (omega arith)
]

pub none_listed : (fixed : List (Option Seat)) → IsListed fixed (replicate 52 0) 0
none_listed fixed = record {
  below = λ i h. zeros_below i;
  frees = λ i h. absurd (omega arith);
  index = λ i h. absurd (omega arith);
}

pub one_listed : (fixed : List (Option Seat)) (free : List ℕ) (count i : ℕ) → length free ≡ 52 → count ≤ i → i < 52
    → count ≡ count_by is_free (take i fixed) → is_free (fixed_at fixed i) ≡ true
    → IsListed fixed free count → IsListed fixed (set free count i) (count + 1)
one_listed fixed free count i long few below all here before =
    let inside : count < length free = omega arith in
    record {
      below = λ k h. elim (same_or_not k count) [
        | inl e ↦ rw e (rw (get_or-set_same free count i 0 inside) below)
        | inr ne ↦ rw (get_or-set_other free count k i 0 ne) (before.below k h)
      ];
      frees = set_more (λ k x. is_free (fixed_at fixed x) ≡ true) free count i inside before.frees here;
      index = set_more (λ k x. free_index fixed x ≡ k) free count i inside before.index (sym all);
    }
  where
    same_or_not : (a b : ℕ) → (a ≡ b) ⊎ (a ≢ b)
    same_or_not a b = elim (cases_lt a b) [
      | inl l ↦ inr (λ e. absurd (omega arith))
      | inr g ↦ elim (cases_lt b a) [ inl l ↦ inr (λ e. absurd (omega arith)) | inr k ↦ inl (omega arith) ]
    ]
