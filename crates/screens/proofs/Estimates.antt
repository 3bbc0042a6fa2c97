-- What estimates promise: card by card, and all together.
use Rattle.std.proofs.Common.{◌≡◌, ◌≤◌, ◌<◌, ◌+◌, ◌∙◌, ℕ, zero, suc, All, Bool, false, cond, List, [], ◌∷◌, Option}
use Rattle.std.proofs.Common.{Some, None, ap, arith, get_or, map, refl, sym}
use Rattle.std.specs.Prelude.{slice_get}
use Rattle.std.specs.List.{sum_by, range_with_len}
use Rattle.std.proofs.lemmas.List.Elements.{All-head, All-tail}
use Rattle.std.proofs.lemmas.List.FromFn.{sum_by-map-range_with_len_more}
use Rattle.std.proofs.lemmas.List.Sums.{sum_by-cons}
use Rattle.cards.specs.declared.seat.Seat.{Seat}
use Rattle.cards.specs.declared.seat.Seat.TheVariants.{North, East, South, West}
use Rattle.cards.specs.Hands.{holds_card}
use Rattle.cards.specs.Shuffle.{pack}
use Rattle.cards.specs.Weights.{weighed}
use Rattle.screens.specs.declared.estimate.Estimate.{Estimate}
use Rattle.screens.specs.declared.stage.Bound.{Bound}
use Rattle.screens.specs.declared.stage.Bound.TheVariants.{Least, Greatest}
use Rattle.screens.specs.declared.stage.Stage.{Stage}
use Rattle.screens.specs.declared.stage.Stage.TheVariants.{OneHand, TwoHands}
use Rattle.conditions.specs.Form.{Amount}
use Rattle.conditions.specs.Meaning.{value_in}
use Rattle.screens.specs.internal.Estimates.{IsBeyond, IsEstimate, IsPossible}
use Rattle.screens.specs.internal.Shares.{beside, is_at, open_weight, weight_at}
use Rattle.screens.proofs.CardByCard.{counted_least, counted_most, holder, in_pack, nothing, read_hand, same_in}

-- ---- sums over the pack, one card more

same_list : (xs : List ℕ) → map (λ x. x) xs ≡ xs
same_list [] = refl
same_list (x ∷ xs) = ap (λ ys. x ∷ ys) (same_list xs)

pub one_more : (f : ℕ → ℕ) (i : ℕ) → sum_by f (range_with_len 0 (i + 1)) ≡ sum_by f (range_with_len 0 i) + f i
one_more f i =
    ap (sum_by f) (sym (same_list (range_with_len 0 (i + 1))))
    ∙ sum_by-map-range_with_len_more f (λ x. x) 0 i i (omega arith)
    ∙ ap (λ xs. sum_by f xs + f i) (same_list (range_with_len 0 i))

-- ---- one card

-- whether the seat's hand is known, and not West's
abbrev is_south : Stage → Seat → Bool
is_south OneHand h = false
is_south TwoHands h = is_at South h

-- what a card counts at its seat is bounded by what is taken for it, where that is replaced in a
-- known hand by what it counts there
abbrev Corrects : Bound → ℕ → ℕ → ℕ → ℕ → Bool → Bool → Type 0
Corrects Least taken west south counts w s =
    taken + (cond w west 0 + cond s south 0) ≤ counts + (cond w taken 0 + cond s taken 0)
Corrects Greatest taken west south counts w s =
    counts + (cond w taken 0 + cond s taken 0) ≤ taken + (cond w west 0 + cond s south 0)

fixed_at : (bound : Bound) (stage : Stage) (a : Amount) (c : ℕ) (h : Seat)
    → Corrects bound (weight_at a c h) (weight_at a c West) (weight_at a c South) (weight_at a c h) (is_at West h) (is_south stage h)
fixed_at Least OneHand a c North = omega arith
fixed_at Least TwoHands a c North = omega arith
fixed_at Greatest OneHand a c North = omega arith
fixed_at Greatest TwoHands a c North = omega arith
fixed_at bound stage a c h = omega arith

free_at : (bound : Bound) (stage : Stage) (a : Amount) (c : ℕ) (h : Seat)
    → Corrects bound (open_weight bound stage a c None) (weight_at a c West) (weight_at a c South) (weight_at a c h) (is_at West h) (is_south stage h)
free_at Least OneHand a c North = omega arith
free_at Least TwoHands a c North = omega arith
free_at Greatest OneHand a c North = omega arith
free_at Greatest TwoHands a c North = omega arith
free_at bound stage a c h = omega arith

either_at : (bound : Bound) (stage : Stage) (a : Amount) (c : ℕ) (f : Option Seat) (h : Seat) → ((q : Seat) → f ≡ Some q → h ≡ q)
    → Corrects bound (open_weight bound stage a c f) (weight_at a c West) (weight_at a c South) (weight_at a c h) (is_at West h) (is_south stage h)
either_at bound stage a c (Some q) h stays = rw (stays q refl) (fixed_at bound stage a c q)
either_at bound stage a c None h stays = free_at bound stage a c h

-- ---- a deal

-- whether the card is in South's hand, as far as that is known
abbrev in_south : Stage → List Bool → ℕ → Bool
in_south OneHand south c = false
in_south TwoHands south c = holds_card south c

south_read : (stage : Stage) (fixed : List (Option Seat)) (west south : List Bool) (deal : List Seat) (c : ℕ)
    → IsPossible stage fixed west south deal → c < 52 → in_south stage south c ≡ is_south stage (holder deal c)
south_read OneHand fixed west south deal c ok h = refl
south_read TwoHands fixed west south deal c ok h = ap (λ hand. holds_card hand c) (sym (ok.south_is refl))
    ∙ read_hand deal South c ok.completion.keeps.partition h

west_read : (stage : Stage) (fixed : List (Option Seat)) (west south : List Bool) (deal : List Seat) (c : ℕ)
    → IsPossible stage fixed west south deal → c < 52 → holds_card west c ≡ is_at West (holder deal c)
west_read stage fixed west south deal c ok h = ap (λ hand. holds_card hand c) (sym ok.completion.hand)
    ∙ read_hand deal West c ok.completion.keeps.partition h

found : (fixed : List (Option Seat)) (c : ℕ) (q : Seat) → get_or fixed c None ≡ Some q → slice_get fixed c ≡ Some (Some q)
found [] c q e = absurd (cc)
found (f ∷ fs) zero q e = ap (λ s. Some s) e
found (f ∷ fs) (suc c) q e = found fs c q e

read : (deal : List Seat) (c : ℕ) (q : Seat) → slice_get deal c ≡ Some q → get_or deal c North ≡ q
read [] c q e = absurd (cc)
read (h ∷ hs) zero q e = cc
read (h ∷ hs) (suc c) q e = read hs c q e

-- what is taken for a card
abbrev pub taken_for : Bound → Stage → List (Option Seat) → Amount → ℕ → ℕ
taken_for bound stage fixed a c = open_weight bound stage a c (get_or fixed c None)

each_card : (bound : Bound) (stage : Stage) (fixed : List (Option Seat)) (west south : List Bool) (deal : List Seat) (a : Amount) (c : ℕ)
    → IsPossible stage fixed west south deal → c < 52
    → Corrects bound (taken_for bound stage fixed a c) (weight_at a c West) (weight_at a c South)
    (weight_at a c (holder deal c)) (holds_card west c) (in_south stage south c)
each_card bound stage fixed west south deal a c ok h =
    rw (west_read stage fixed west south deal c ok h, south_read stage fixed west south deal c ok h)
    (either_at bound stage a c (get_or fixed c None) (holder deal c) (λ q e. read deal c q (ok.completion.keeps.fixed_stay c q (found fixed c q e))))

-- ---- all cards

all_cards : (x p q y r t : ℕ → ℕ) → ((c : ℕ) → c < 52 → x c + (p c + q c) ≤ y c + (r c + t c)) → (xs : List ℕ) → All (λ c. c < 52) xs
    → sum_by x xs + (sum_by p xs + sum_by q xs) ≤ sum_by y xs + (sum_by r xs + sum_by t xs)
all_cards x p q y r t each [] inside = omega arith
all_cards x p q y r t each (c ∷ cs) inside =
    omega (
      arith,
      sum_by-cons x c cs,
      sum_by-cons p c cs,
      sum_by-cons q c cs,
      sum_by-cons y c cs,
      sum_by-cons r c cs,
      sum_by-cons t c cs,
      each c (All-head (λ k. k < 52) c cs inside),
      all_cards x p q y r t each cs (All-tail (λ k. k < 52) c cs inside),
    )

-- what a seat's known cards count, and what was taken for them
abbrev held_at : Amount → Seat → (ℕ → Bool) → ℕ → ℕ
held_at a q is_held c = cond (is_held c) (weight_at a c q) 0

abbrev taken_at : Bound → Stage → List (Option Seat) → Amount → (ℕ → Bool) → ℕ → ℕ
taken_at bound stage fixed a is_held c = cond (is_held c) (taken_for bound stage fixed a c) 0

bounds : (bound : Bound) (stage : Stage) (fixed : List (Option Seat)) (a : Amount) (e : Estimate) (west south : List Bool) (deal : List Seat) (k : ℕ)
    → IsPossible stage fixed west south deal
    → e.total ≡ beside bound a + sum_by (taken_for bound stage fixed a) pack
    → weighed e.west west ≡ sum_by (held_at a West (holds_card west)) pack
    → weighed e.taken west ≡ sum_by (taken_at bound stage fixed a (holds_card west)) pack
    → weighed e.south south ≡ k + sum_by (held_at a South (in_south stage south)) pack
    → weighed e.taken south ≡ k + sum_by (taken_at bound stage fixed a (in_south stage south)) pack
    → IsBeyond bound e west south (value_in deal a)
bounds Least stage fixed a e west south deal k ok total hw tw hs ts =
    omega (
      arith,
      total,
      hw,
      tw,
      hs,
      ts,
      counted_least deal ok.completion.keeps.partition a,
      all_cards (taken_for Least stage fixed a) (held_at a West (holds_card west)) (held_at a South (in_south stage south))
          (λ c. weight_at a c (holder deal c)) (taken_at Least stage fixed a (holds_card west)) (taken_at Least stage fixed a (in_south stage south))
          (λ c h. each_card Least stage fixed west south deal a c ok h) pack in_pack,
    )
bounds Greatest stage fixed a e west south deal k ok total hw tw hs ts =
    omega (
      arith,
      total,
      hw,
      tw,
      hs,
      ts,
      counted_most deal ok.completion.keeps.partition a,
      all_cards (λ c. weight_at a c (holder deal c)) (taken_at Greatest stage fixed a (holds_card west))
          (taken_at Greatest stage fixed a (in_south stage south))
          (taken_for Greatest stage fixed a) (held_at a West (holds_card west)) (held_at a South (in_south stage south))
          (λ c h. each_card Greatest stage fixed west south deal a c ok h) pack in_pack,
    )

-- ---- as the lists of the code have it

-- the lists have what is taken for each card, and what it counts at the seat
abbrev pub TakenIn : Bound → Stage → List (Option Seat) → Amount → List ℕ → Type 0
TakenIn bound stage fixed a taken = (c : ℕ) → c < 52 → get_or taken c 0 ≡ taken_for bound stage fixed a c

abbrev pub HeldIn : Amount → Seat → List ℕ → Type 0
HeldIn a q held = (c : ℕ) → c < 52 → get_or held c 0 ≡ weight_at a c q

held_read : (a : Amount) (q : Seat) (held : List ℕ) (hand : List Bool) → HeldIn a q held
    → weighed held hand ≡ sum_by (held_at a q (holds_card hand)) pack
held_read a q held hand is_held =
    same_in (λ c. cond (holds_card hand c) (get_or held c 0) 0) (held_at a q (holds_card hand)) (λ c h. rw (is_held c h) refl) pack in_pack

taken_read : (bound : Bound) (stage : Stage) (fixed : List (Option Seat)) (a : Amount) (taken : List ℕ)
    (hand : List Bool) → TakenIn bound stage fixed a taken
    → weighed taken hand ≡ sum_by (taken_at bound stage fixed a (holds_card hand)) pack
taken_read bound stage fixed a taken hand is_taken =
    same_in (λ c. cond (holds_card hand c) (get_or taken c 0) 0) (taken_at bound stage fixed a (holds_card hand))
    (λ c h. rw (is_taken c h) refl) pack in_pack

total_read : (bound : Bound) (stage : Stage) (fixed : List (Option Seat)) (a : Amount) (taken : List ℕ) → TakenIn bound stage fixed a taken
    → sum_by (λ c. get_or taken c 0) pack ≡ sum_by (taken_for bound stage fixed a) pack
total_read bound stage fixed a taken is_taken = same_in (λ c. get_or taken c 0) (taken_for bound stage fixed a) is_taken pack in_pack

plus_nothing : (m n : ℕ) → 0 ≡ n → m ≡ m + n
plus_nothing m n e = omega arith

from_nothing : (n : ℕ) → n ≡ 0 + n
from_nothing n = omega arith

none_known : (stage : Stage) (south : List Bool) → stage ≡ OneHand → (w : ℕ → ℕ) → 0 ≡ sum_by (λ c. cond (in_south stage south c) (w c) 0) pack
none_known stage south at_one w = rw at_one (sym (nothing pack))

all_known : (stage : Stage) (south : List Bool) → stage ≡ TwoHands → (w : ℕ → ℕ)
    → sum_by (λ c. cond (holds_card south c) (w c) 0) pack ≡ sum_by (λ c. cond (in_south stage south c) (w c) 0) pack
all_known stage south at_two w = rw at_two refl

pub one_hand : (bound : Bound) (stage : Stage) (fixed : List (Option Seat)) (a : Amount) (e : Estimate)
    → stage ≡ OneHand → TakenIn bound stage fixed a e.taken → HeldIn a West e.west → e.south ≡ e.taken
    → e.total ≡ beside bound a + sum_by (λ c. get_or e.taken c 0) pack
    → IsEstimate bound stage fixed a e
one_hand bound stage fixed a e at_one is_taken in_west no_south total = record {
  of_each = λ w s deal ok.
      bounds bound stage fixed a e w s deal (weighed e.taken s) ok
      (total ∙ ap (λ n. beside bound a + n) (total_read bound stage fixed a e.taken is_taken))
      (held_read a West e.west w in_west)
      (taken_read bound stage fixed a e.taken w is_taken)
      (ap (λ list. weighed list s) no_south ∙ plus_nothing (weighed e.taken s) _ (none_known stage s at_one (λ c. weight_at a c South)))
      (plus_nothing (weighed e.taken s) _ (none_known stage s at_one (taken_for bound stage fixed a)));
}

pub two_hands : (bound : Bound) (stage : Stage) (fixed : List (Option Seat)) (a : Amount) (e : Estimate)
    → stage ≡ TwoHands → TakenIn bound stage fixed a e.taken → HeldIn a West e.west → HeldIn a South e.south
    → e.total ≡ beside bound a + sum_by (λ c. get_or e.taken c 0) pack
    → IsEstimate bound stage fixed a e
two_hands bound stage fixed a e at_two is_taken in_west in_south total = record {
  of_each = λ w s deal ok.
      bounds bound stage fixed a e w s deal 0 ok (total ∙ ap (λ n. beside bound a + n) (total_read bound stage fixed a e.taken is_taken))
      (held_read a West e.west w in_west)
      (taken_read bound stage fixed a e.taken w is_taken)
      (held_read a South e.south s in_south ∙ all_known stage s at_two (λ c. weight_at a c South) ∙ from_nothing _)
      (taken_read bound stage fixed a e.taken s is_taken ∙ all_known stage s at_two (taken_for bound stage fixed a) ∙ from_nothing _);
}
