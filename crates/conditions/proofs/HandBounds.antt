-- What a hand of thirteen cards is at the most.
use Rattle.std.proofs.Common.{◌≡◌, ◌≤◌, ◌+◌, ◌/◌, ◌&&◌, ◌==◌, ◌∙◌, ℕ, zero, suc, Bool, true, false, cond, List, []}
use Rattle.std.proofs.Common.{◌∷◌, ap, arith, length, map, refl, sym}
use Rattle.std.specs.List.{sum_by}
use Rattle.std.proofs.lemmas.Bool.{true≢false}
use Rattle.std.proofs.lemmas.List.{get_or_past}
use Rattle.std.proofs.lemmas.List.FromFn.{fill_by_all}
use Rattle.std.proofs.lemmas.List.Sums.{sum_by-cons}
use Rattle.cards.specs.declared.seat.Seat.{Seat}
use Rattle.cards.specs.declared.suit.Suit.TheVariants.{Spades, Hearts, Diamonds, Clubs}
use Rattle.cards.specs.Deals.{IsPartition}
use Rattle.cards.specs.Hands.{hand_of, holds_card, length_of}
use Rattle.cards.specs.Pack.{seat_number}
use Rattle.cards.specs.Shuffle.{pack}

-- ---- thirteen cards

counted : {X : Type 0} (p : X → Bool) (xs : List X) → sum_by (λ b. cond b 1 0) (map p xs) ≡ sum_by (λ x. cond (p x) 1 0) xs
counted p [] = refl
counted p (x ∷ xs) =
    sum_by-cons (λ b. cond b 1 0) (p x) (map p xs)
    ∙ ap (λ n. cond (p x) 1 0 + n) (counted p xs)
    ∙ sym (sum_by-cons (λ y. cond (p y) 1 0) x xs)

long_map : {X Y : Type 0} (f : X → Y) (xs : List X) → length (map f xs) ≡ length xs
long_map f [] = refl
long_map f (x ∷ xs) = ap suc (long_map f xs)

pub long : (deal : List Seat) (q : Seat) → IsPartition deal → length (hand_of deal q) ≡ 52
long deal q ok = long_map (λ holder. seat_number holder == seat_number q) deal ∙ ok.count

pub thirteen : (deal : List Seat) (q : Seat) → IsPartition deal → sum_by (λ c. cond (holds_card (hand_of deal q) c) 1 0) pack ≡ 13
unfolding pack
thirteen deal q ok =
    let hand : List Bool = hand_of deal q in
    sym (counted (holds_card hand) pack)
    ∙ ap (sum_by (λ b. cond b 1 0)) (sym (fill_by_all (holds_card hand) hand 52 false (long deal q ok) (λ i h. refl)))
    ∙ counted (λ holder. seat_number holder == seat_number q) deal
    ∙ ok.thirteen q

pub both : (f g : ℕ → ℕ) (xs : List ℕ) → sum_by (λ x. f x + g x) xs ≡ sum_by f xs + sum_by g xs
both f g [] = refl
both f g (x ∷ xs) = omega (arith, sum_by-cons (λ y. f y + g y) x xs, sum_by-cons f x xs, sum_by-cons g x xs, both f g xs)

-- ---- lengths

no_suit : (b : Bool) → cond {A = ℕ} (b && false) 1 0 ≡ 0
no_suit true = refl
no_suit false = refl

-- of the four suits a card is in one
by_suit : (k : ℕ) (b : Bool) → (4 ≤ k → b ≡ false)
    → cond ((k == 0) && b) 1 0 + cond ((k == 1) && b) 1 0 + cond ((k == 2) && b) 1 0 + cond ((k == 3) && b) 1 0 ≡ cond b 1 0
by_suit zero true none = refl
by_suit zero false none = refl
by_suit (suc zero) true none = refl
by_suit (suc zero) false none = refl
by_suit (suc (suc zero)) true none = refl
by_suit (suc (suc zero)) false none = refl
by_suit (suc (suc (suc zero))) true none = refl
by_suit (suc (suc (suc zero))) false none = refl
by_suit (suc (suc (suc (suc k)))) true none = absurd (true≢false (none (omega arith)))
by_suit (suc (suc (suc (suc k)))) false none =
    let n : ℕ = suc (suc (suc (suc k))) in
    omega (arith, no_suit (n == 0), no_suit (n == 1), no_suit (n == 2), no_suit (n == 3))

no_card : (hand : List Bool) (c : ℕ) → length hand ≡ 52 → 4 ≤ c / 13 → holds_card hand c ≡ false
no_card hand c whole after = get_or_past hand c false (omega (arith, whole, after))

same_sum : (f g : ℕ → ℕ) → ((x : ℕ) → f x ≡ g x) → (xs : List ℕ) → sum_by f xs ≡ sum_by g xs
same_sum f g e [] = refl
same_sum f g e (x ∷ xs) = omega (arith, sum_by-cons f x xs, sum_by-cons g x xs, e x, same_sum f g e xs)

pub lengths_add : (deal : List Seat) (q : Seat) → IsPartition deal
    → length_of (hand_of deal q) Spades + length_of (hand_of deal q) Hearts + length_of (hand_of deal q) Diamonds
    + length_of (hand_of deal q) Clubs ≡ 13
lengths_add deal q ok =
    let hand : List Bool = hand_of deal q in
    let in_suit : ℕ → ℕ → ℕ = λ k c. cond ((c / 13 == k) && holds_card hand c) 1 0 in
    omega (
      arith,
      both (in_suit 0) (in_suit 1) pack,
      both (λ c. in_suit 0 c + in_suit 1 c) (in_suit 2) pack,
      both (λ c. in_suit 0 c + in_suit 1 c + in_suit 2 c) (in_suit 3) pack,
      same_sum (λ c. in_suit 0 c + in_suit 1 c + in_suit 2 c + in_suit 3 c) (λ c. cond (holds_card hand c) 1 0)
          (λ c. by_suit (c / 13) (holds_card hand c) (no_card hand c (long deal q ok))) pack,
      thirteen deal q ok,
    )
