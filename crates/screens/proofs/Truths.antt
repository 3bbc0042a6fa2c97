-- What the truth of tests says of numbers.
use Rattle.std.proofs.Common.{◌≡◌, ◌≤◌, ◌+◌, ◌&&◌, ◌||◌, ◌==◌, ◌⊎◌, ℕ, not, Bool, true, false, arith, inl, inr, nat_le, nat_lt, refl}
use Rattle.std.proofs.lemmas.Bool.Decides.{nat_tests}

-- ---- relations

pub both_sides : (b c : Bool) → (b || c) ≡ true → (b ≡ true) ⊎ (c ≡ true)
both_sides true c h = inl refl
both_sides false c h = inr h

pub less : (a b : ℕ) → nat_lt a b ≡ true → a + 1 ≤ b
less a b h = grind (arith, nat_tests)

pub not_more : (a b : ℕ) → nat_le a b ≡ true → a ≤ b
not_more a b h = grind (arith, nat_tests)

pub no_less : (a b : ℕ) → b ≤ a → nat_lt a b ≡ false
no_less a b h = grind (arith, nat_tests)

pub no_more : (a b : ℕ) → b + 1 ≤ a → nat_le a b ≡ false
no_more a b h = grind (arith, nat_tests)

pub apart : (x y : ℕ) → (x + 1 ≤ y) ⊎ (y + 1 ≤ x) → (x == y) ≡ false
apart x y (inl h) = grind (arith, nat_tests)
apart x y (inr h) = grind (arith, nat_tests)

pub same : (x y : ℕ) → x ≤ y → y ≤ x → not (x == y) ≡ false
same x y h k = grind (arith, nat_tests)

pub all_true : (b c : Bool) → (b && c) ≡ true → (b ≡ true) × (c ≡ true)
all_true true true h = (refl, refl)
all_true true false h = absurd (cc h)
all_true false c h = absurd (cc h)

pub same_number : (x y : ℕ) → (x == y) ≡ true → x ≡ y
same_number x y h = grind (arith, nat_tests)

pub false_unless : (b : Bool) → (b ≡ true → ⊥) → b ≡ false
false_unless true h = absurd (h refl)
false_unless false h = refl
