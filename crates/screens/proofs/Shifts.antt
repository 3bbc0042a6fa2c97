-- What the two weights of a shift come to, and what an open gap tells of two values.
use Rattle.std.proofs.Common.{◌≡◌, ◌<◌, ◌+◌, ◌-◌, ◌∙◌, ℕ, All, min, Bool, true, false, cond, List, [], ◌∷◌, IsTrue}
use Rattle.std.proofs.Common.{arith, ap, get_or, length, refl, sym}
use Rattle.std.specs.Prelude.{nat_lt}
use Rattle.std.specs.List.{sum_by}
use Rattle.std.proofs.lemmas.Bool.Decides.{nat_tests}
use Rattle.std.proofs.lemmas.List.Elements.{All-get_or, All-head, All-tail}
use Rattle.std.proofs.lemmas.List.Sums.{sum_by-cons}
use Rattle.cards.specs.Hands.{holds_card}
use Rattle.cards.specs.Shuffle.{pack}
use Rattle.cards.specs.Weights.{weighed}
use Rattle.screens.specs.declared.estimate.Estimate.{Estimate}
use Rattle.screens.specs.declared.gap.Gap.{Gap}
use Rattle.screens.specs.declared.gap.Shift.{Shift}
use Rattle.screens.specs.declared.stage.Bound.TheVariants.{Least, Greatest}
use Rattle.screens.specs.internal.Estimates.{IsBeyond, surplus_of, weighed_by}
use Rattle.screens.specs.internal.Exclusions.{is_below}
use Rattle.screens.specs.internal.Gaps.{IsGap, IsShift, is_open}
use Rattle.screens.proofs.CardByCard.{in_pack, nothing, same_in}

-- ---- what surpluses weigh

either_nothing : (b : Bool) → 0 ≡ cond {A = ℕ} b 0 0
either_nothing true = refl
either_nothing false = refl

pub none_weighs : (left right weights : List ℕ) → ((c : ℕ) → c < 52 → get_or weights c 0 ≡ min (get_or left c 0 - get_or right c 0) 16)
    → ((c : ℕ) → c < 52 → get_or weights c 0 ≡ 0)
    → (hand : List Bool) → 0 ≡ surplus_of left right hand
none_weighs left right weights are zeros hand =
    sym (nothing pack)
    ∙ same_in (λ c. 0) (λ c. cond (holds_card hand c) (get_or left c 0 - get_or right c 0) 0)
    (λ c h. let none : get_or left c 0 - get_or right c 0 ≡ 0 = omega (arith, are c h, zeros c h) in
    rw none (either_nothing (holds_card hand c))) pack in_pack

pub all_weigh : (left right weights : List ℕ) → ((c : ℕ) → c < 52 → get_or weights c 0 ≡ min (get_or left c 0 - get_or right c 0) 16)
    → length weights ≡ 52 → All (λ w. w < 16) weights
    → (hand : List Bool) → weighed weights hand ≡ surplus_of left right hand
all_weigh left right weights are long light hand =
    same_in (λ c. cond (holds_card hand c) (get_or weights c 0) 0) (λ c. cond (holds_card hand c) (get_or left c 0 - get_or right c 0) 0)
    (λ c h. let same : get_or weights c 0 ≡ get_or left c 0 - get_or right c 0 =
    omega (arith, are c h, All-get_or (λ w. w < 16) weights c 0 (omega (arith, long)) light) in
    ap (λ w. cond (holds_card hand c) w 0) same) pack in_pack

-- ---- the balance of a shift

-- two lists' numbers of a card together, in a list
abbrev pub SumIn : List ℕ → List ℕ → List ℕ → Type 0
SumIn left right sums = (c : ℕ) → c < 52 → get_or sums c 0 ≡ get_or left c 0 + get_or right c 0

balanced_card : (b : Bool) (x y p q m n : ℕ) → m ≡ p + q → n ≡ x + y
    → cond b (m - n) 0 + (cond b x 0 + cond b y 0) ≡ cond b (n - m) 0 + (cond b p 0 + cond b q 0)
balanced_card true x y p q m n e f = omega arith
balanced_card false x y p q m n e f = refl

all_balance : (g x y l p q : ℕ → ℕ) → ((c : ℕ) → c < 52 → g c + (x c + y c) ≡ l c + (p c + q c)) → (xs : List ℕ) → All (λ c. c < 52) xs
    → sum_by g xs + (sum_by x xs + sum_by y xs) ≡ sum_by l xs + (sum_by p xs + sum_by q xs)
all_balance g x y l p q each [] inside = refl
all_balance g x y l p q each (c ∷ cs) inside =
    omega (
      arith,
      sum_by-cons g c cs,
      sum_by-cons x c cs,
      sum_by-cons y c cs,
      sum_by-cons l c cs,
      sum_by-cons p c cs,
      sum_by-cons q c cs,
      each c (All-head (λ k. k < 52) c cs inside),
      all_balance g x y l p q each cs (All-tail (λ k. k < 52) c cs inside),
    )

-- a hand's card, by its number in a list
abbrev in_hand : List ℕ → List Bool → ℕ → ℕ
in_hand list hand c = cond (holds_card hand c) (get_or list c 0) 0

pub balanced : (held taken other_held other_taken opening closing : List ℕ) (shift : Shift)
    → SumIn taken other_held opening → SumIn held other_taken closing
    → ((hand : List Bool) → weighed_by shift.gain hand ≡ surplus_of opening closing hand)
    → ((hand : List Bool) → weighed_by shift.loss hand ≡ surplus_of closing opening hand)
    → IsShift held taken other_held other_taken shift
balanced held taken other_held other_taken opening closing shift opens closes gains losses = record {
  balance = λ hand.
      omega (
        arith,
        gains hand,
        losses hand,
        all_balance (λ c. cond (holds_card hand c) (get_or opening c 0 - get_or closing c 0) 0) (in_hand held hand) (in_hand other_taken hand)
            (λ c. cond (holds_card hand c) (get_or closing c 0 - get_or opening c 0) 0) (in_hand taken hand) (in_hand other_held hand)
            (λ c h. balanced_card (holds_card hand c) (get_or held c 0) (get_or other_taken c 0) (get_or taken c 0)
            (get_or other_held c 0) (get_or opening c 0) (get_or closing c 0)
            (opens c h) (closes c h)) pack in_pack,
      );
}

-- ---- an open gap

from_gap : (or_equal : Bool) (x y : ℕ) → x < y + cond or_equal 1 0 → is_below or_equal x y ≡ true
from_gap true x y h = grind (arith, nat_tests)
from_gap false x y h = grind (arith, nat_tests)

open_is_less : (m n : ℕ) → IsTrue (nat_lt m n) → m < n
open_is_less m n h = grind (arith, nat_tests)

pub apart : (most least : Estimate) (or_equal : Bool) (gap : Gap) (west south : List Bool) (x y : ℕ)
    → IsGap most least or_equal gap → IsBeyond Greatest most west south x → IsBeyond Least least west south y
    → IsTrue (is_open gap west south) → is_below or_equal x y ≡ true
apart most least or_equal gap west south x y is_gap is_most is_least is_out =
    from_gap or_equal x y
    (omega (
      arith,
      is_gap.low_is,
      is_gap.high_is,
      is_gap.west_is.balance west,
      is_gap.south_is.balance south,
      is_most,
      is_least,
      open_is_less (gap.low + (weighed_by gap.west.loss west + weighed_by gap.south.loss south))
          (gap.high + (weighed_by gap.west.gain west + weighed_by gap.south.gain south)) is_out,
    ))
