-- Counts of the same numbers are the same.
use Rattle.std.proofs.Common.{◌≡◌, ◌==◌, ◌∙◌, ℕ, zero, suc, Bool, true, false, List, [], ◌∷◌, ap, get_or, if◌then◌else◌, refl, sym}
use Rattle.cards.specs.declared.honours.Honours.{Honours}
use Rattle.cards.specs.declared.seat.Seat.{Seat}
use Rattle.cards.specs.declared.seat.Seat.TheVariants.{North, East, South, West}
use Rattle.cards.specs.declared.suit.Suit.{Suit}
use Rattle.cards.specs.declared.suit.Suit.TheVariants.{Spades, Hearts, Diamonds, Clubs}
use Rattle.cards.specs.Hands.{is_same}
use Rattle.cards.specs.Measures.{measure_back, measure_number, measure_of_number}
use Rattle.cards.specs.Orders.{order_back, order_number, order_of_number}
use Rattle.cards.specs.Pack.{seat_number, seat_of_number, suit_number}
use Rattle.conditions.specs.declared.tree.Count.{Count}
use Rattle.conditions.specs.declared.tree.Count.TheVariants as counts
use Rattle.screens.specs.Facts.{count_code, honours_number, is_same_count}
use Rattle.screens.specs.Wholes.{honours_by}
use Rattle.screens.proofs.Truths.{all_true, same_number}

-- ---- from numbers back

seat_back : (q : Seat) → seat_of_number (seat_number q) ≡ q
seat_back North = refl
seat_back x = refl

abbrev suit_at : ℕ → Suit
suit_at zero = Spades
suit_at (suc zero) = Hearts
suit_at (suc (suc zero)) = Diamonds
suit_at _ = Clubs

suit_back : (s : Suit) → suit_at (suit_number s) ≡ s
suit_back Spades = refl
suit_back x = refl

abbrev ranks : Bool → Bool → Bool → Bool → Bool → Honours
ranks a k q j t = record { ace = a; king = k; queen = q; jack = j; ten = t }

bits : (a k q j t : Bool) → honours_by (honours_number (ranks a k q j t)) ≡ ranks a k q j t
bits true true true true true = refl
bits true true true true false = refl
bits true true true false true = refl
bits true true true false false = refl
bits true true false true true = refl
bits true true false true false = refl
bits true true false false true = refl
bits true true false false false = refl
bits true false true true true = refl
bits true false true true false = refl
bits true false true false true = refl
bits true false true false false = refl
bits true false false true true = refl
bits true false false true false = refl
bits true false false false true = refl
bits true false false false false = refl
bits false true true true true = refl
bits false true true true false = refl
bits false true true false true = refl
bits false true true false false = refl
bits false true false true true = refl
bits false true false true false = refl
bits false true false false true = refl
bits false true false false false = refl
bits false false true true true = refl
bits false false true true false = refl
bits false false true false true = refl
bits false false true false false = refl
bits false false false true true = refl
bits false false false true false = refl
bits false false false false true = refl
bits false false false false false = refl

honours_back : (h : Honours) → honours_by (honours_number h) ≡ h
honours_back h = bits h.ace h.king h.queen h.jack h.ten

-- the count of four numbers
abbrev count_by : ℕ → ℕ → ℕ → ℕ → Count
count_by n q s m =
    if n == 1 then counts.Total (measure_of_number m) (seat_of_number q)
    else (if n == 2 then counts.SuitTotal (measure_of_number m) (seat_of_number q) (suit_at s)
    else (if n == 3 then counts.Length (seat_of_number q) (suit_at s)
    else (if n == 4 then counts.Ordered (order_of_number m) (seat_of_number q)
    else (if n == 5 then counts.Cards (seat_of_number q) (honours_by m)
    else counts.SuitCards (seat_of_number q) (suit_at s) (honours_by m)))))

abbrev count_at : List ℕ → Count
count_at code = count_by (get_or code 0 0) (get_or code 1 0) (get_or code 2 0) (get_or code 3 0)

count_back : (c : Count) → count_at (count_code c) ≡ c
count_back (counts.Total m q) =
    ap (λ p. counts.Total (measure_of_number (measure_number m)) p) (seat_back q) ∙ ap (λ k. counts.Total k q) (measure_back m)
count_back (counts.SuitTotal m q s) =
    ap (λ p. counts.SuitTotal (measure_of_number (measure_number m)) p (suit_at (suit_number s))) (seat_back q)
    ∙ ap (λ t. counts.SuitTotal (measure_of_number (measure_number m)) q t) (suit_back s)
    ∙ ap (λ k. counts.SuitTotal k q s) (measure_back m)
count_back (counts.Length q s) =
    ap (λ p. counts.Length p (suit_at (suit_number s))) (seat_back q) ∙ ap (λ t. counts.Length q t) (suit_back s)
count_back (counts.Ordered o q) =
    ap (λ p. counts.Ordered (order_of_number (order_number o)) p) (seat_back q) ∙ ap (λ k. counts.Ordered k q) (order_back o)
count_back (counts.Cards q h) =
    ap (λ p. counts.Cards p (honours_by (honours_number h))) (seat_back q) ∙ ap (λ g. counts.Cards q g) (honours_back h)
count_back (counts.SuitCards q s h) =
    ap (λ p. counts.SuitCards p (suit_at (suit_number s)) (honours_by (honours_number h))) (seat_back q)
    ∙ ap (λ t. counts.SuitCards q t (honours_by (honours_number h))) (suit_back s)
    ∙ ap (λ g. counts.SuitCards q s g) (honours_back h)

-- ---- equal numbers

pub equal_lists : (xs ys : List ℕ) → is_same xs ys ≡ true → xs ≡ ys
equal_lists [] [] h = refl
equal_lists (x ∷ xs) (y ∷ ys) h =
    let two = all_true (x == y) (is_same xs ys) h in
    ap (λ n. n ∷ xs) (same_number x y two.0) ∙ ap (λ l. y ∷ l) (equal_lists xs ys two.1)
equal_lists [] (y ∷ ys) h = absurd (cc h)
equal_lists (x ∷ xs) [] h = absurd (cc h)

pub same_count : (a b : Count) → is_same_count a b ≡ true → a ≡ b
unfolding is_same_count
same_count a b h = sym (count_back a) ∙ ap count_at (equal_lists (count_code a) (count_code b) h) ∙ count_back b
