-- What is refuted by true facts isn't so.
use Rattle.std.proofs.Common.{◌≡◌, ◌≤◌, ◌+◌, ◌&&◌, ◌||◌, ◌==◌, ◌∙◌, ℕ, not, Bool, true, false, List, [], ◌∷◌, Some}
use Rattle.std.proofs.Common.{None, ap, arith, if◌then◌else◌, inl, inr, nat_le, nat_lt, refl, sym}
use Rattle.std.proofs.Math.Nat.{mul-le-mul_left}
use Rattle.std.proofs.lemmas.Bool.{cases_lt}
use Rattle.std.proofs.lemmas.Bool.Decides.{nat_tests}
use Rattle.cards.specs.declared.seat.Seat.{Seat}
use Rattle.cards.specs.declared.suit.Suit.TheVariants.{Spades, Hearts, Diamonds, Clubs}
use Rattle.cards.specs.Deals.{IsPartition}
use Rattle.cards.specs.Hands.{hand_of, is_balanced, is_rearrangement, is_same, shape_of}
use Rattle.conditions.specs.declared.tree.Count.TheVariants as counts
use Rattle.conditions.specs.declared.tree.Op.{Op}
use Rattle.conditions.specs.declared.tree.Op.TheVariants.{AtLeast, AtMost, Equal, Less, More, NotEqual}
use Rattle.conditions.specs.Form.{Amount, Form, all_of, any_of, balanced, compare, counted, loose_pattern}
use Rattle.conditions.specs.Form.{loose_shape, negation, number, pattern, shape, stops, times, within}
use Rattle.conditions.specs.Form.{sum as plus}
use Rattle.conditions.specs.Meaning.{are_allowed, are_allowed_in_some_order, holds, is_related, value_in}
use Rattle.screens.specs.declared.unmet.facts.Facts.{Facts}
use Rattle.screens.specs.Facts.{AreTrueOf, greatest_lengths, least_lengths}
use Rattle.screens.specs.Refuted.{is_never_related, is_never_within, is_other, is_refuted, related_as, shape_by}
use Rattle.screens.specs.Suits.{in_order}
use Rattle.screens.specs.Values.{greatest_value, least_value}
use Rattle.screens.proofs.CountBounds.{at_least, at_most, high_told, low_told}
use Rattle.screens.proofs.SameCount.{equal_lists}
use Rattle.screens.proofs.Truths.{all_true, apart, both_sides, less, no_less, no_more, not_more, same}

-- ---- values

low_value : (deal : List Seat) (k : Facts) → IsPartition deal → AreTrueOf deal k → (a : Amount) → least_value k a ≤ value_in deal a
low_value deal k ok are (plus a b) = omega (arith, low_value deal k ok are a, low_value deal k ok are b)
low_value deal k ok are (number n) = omega arith
low_value deal k ok are (counted c) = at_least deal k ok are c
low_value deal k ok are (times n c) = mul-le-mul_left n (at_least deal k ok are c)

high_value : (deal : List Seat) (k : Facts) → IsPartition deal → AreTrueOf deal k → (a : Amount) → value_in deal a ≤ greatest_value k a
high_value deal k ok are (plus a b) = omega (arith, high_value deal k ok are a, high_value deal k ok are b)
high_value deal k ok are (number n) = omega arith
high_value deal k ok are (counted c) = at_most deal k ok are c
high_value deal k ok are (times n c) = mul-le-mul_left n (at_most deal k ok are c)

-- ---- relations

unrelated : (o : Op) (a b c d x y : ℕ) → a ≤ x → x ≤ b → c ≤ y → y ≤ d → is_never_related o a b c d ≡ true → is_related o x y ≡ false
unrelated Equal a b c d x y h i j k never =
    elim (both_sides (nat_lt b c) (nat_lt d a) never) [
      | inl e ↦ apart x y (inl (omega (arith, less b c e, i, j)))
      | inr e ↦ apart x y (inr (omega (arith, less d a e, h, k)))
    ]
unrelated NotEqual a b c d x y h i j k never =
    let two = all_true (nat_le b c) (nat_le d a) never in
    same x y (omega (arith, not_more b c two.0, i, j)) (omega (arith, not_more d a two.1, h, k))
unrelated Less a b c d x y h i j k never = no_less x y (omega (arith, not_more d a never, h, k))
unrelated AtMost a b c d x y h i j k never = no_more x y (omega (arith, less d a never, h, k))
unrelated More a b c d x y h i j k never = no_less y x (omega (arith, not_more b c never, i, j))
unrelated AtLeast a b c d x y h i j k never = no_more y x (omega (arith, less b c never, i, j))

not_not : (b : Bool) → not (not b) ≡ b
not_not true = refl
not_not false = refl

-- where a relation doesn't hold its opposite does
opposite : (o : Op) (x y : ℕ) → is_related o x y ≡ not (is_related (related_as o false) x y)
opposite Equal x y = sym (not_not (x == y))
opposite NotEqual x y = refl
opposite z x y = grind (arith, nat_tests)

other_relation : (o : Op) (truth : Bool) (a b c d x y : ℕ) → a ≤ x → x ≤ b → c ≤ y → y ≤ d
    → is_never_related (related_as o truth) a b c d ≡ true → is_related o x y ≡ not truth
other_relation o true a b c d x y h i j k never = unrelated o a b c d x y h i j k never
other_relation o false a b c d x y h i j k never =
    opposite o x y ∙ ap not (unrelated (related_as o false) a b c d x y h i j k never)

-- ---- ranges

none_left : (b c : Bool) → b ≡ false → (b && c) ≡ false
none_left false c h = refl
none_left true c h = absurd (cc h)

none_right : (b c : Bool) → c ≡ false → (b && c) ≡ false
none_right true c h = h
none_right false c h = refl

-- a number from a to b that is in no range from m to n
outside : (a b m n x : ℕ) → a ≤ x → x ≤ b → (nat_lt n m || (nat_lt b m || nat_lt n a)) ≡ true → (nat_le m x && nat_le x n) ≡ false
outside a b m n x h i never =
    elim (both_sides (nat_lt n m) (nat_lt b m || nat_lt n a) never) [
      | inl e ↦ turned (less n m e)
      | inr rest ↦
          elim (both_sides (nat_lt b m) (nat_lt n a) rest) [
            | inl e ↦ none_left (nat_le m x) (nat_le x n) (no_more m x (omega (arith, less b m e, i)))
            | inr e ↦ none_right (nat_le m x) (nat_le x n) (no_more x n (omega (arith, less n a e, h)))
          ]
    ]
  where
    turned : n + 1 ≤ m → (nat_le m x && nat_le x n) ≡ false
    turned e =
        elim (cases_lt x m) [
          | inl below ↦ none_left (nat_le m x) (nat_le x n) (no_more m x (omega (arith, below)))
          | inr above ↦ none_right (nat_le m x) (nat_le x n) (no_more x n (omega (arith, above, e)))
        ]

both_true : (b c : Bool) → b ≡ true → c ≡ true → (b && c) ≡ true
both_true b c h i = rw (h, i) refl

at_most_true : (m n : ℕ) → m ≤ n → nat_le m n ≡ true
at_most_true m n h = grind (arith, nat_tests)

inside : (truth : Bool) (a b m n x : ℕ) → a ≤ x → x ≤ b → is_never_within truth a b m n ≡ true → (nat_le m x && nat_le x n) ≡ not truth
inside true a b m n x h i never = outside a b m n x h i never
inside false a b m n x h i never =
    let two = all_true (nat_le m a) (nat_le b n) never in
    both_true (nat_le m x) (nat_le x n)
    (at_most_true m x (omega (arith, not_more m a two.0, h)))
    (at_most_true x n (omega (arith, not_more b n two.1, i)))

-- ---- shapes

between : (a b c : ℕ) → a ≤ b → b ≤ c → a ≡ c → b ≡ a
between a b c h i e = omega arith

four : (a b c d a' b' c' d' x y z w : ℕ) → a ≤ x → x ≤ a' → b ≤ y → y ≤ b' → c ≤ z → z ≤ c' → d ≤ w → w ≤ d'
    → (a ∷ b ∷ c ∷ d ∷ []) ≡ (a' ∷ b' ∷ c' ∷ d' ∷ []) → (x ∷ y ∷ z ∷ w ∷ []) ≡ (a ∷ b ∷ c ∷ d ∷ [])
four a b c d a' b' c' d' x y z w ax xa by yb cz zc dw wd e =
    let one : x ≡ a = between a x a' ax xa cc in
    let two : y ≡ b = between b y b' by yb cc in
    let three : z ≡ c = between c z c' cz zc cc in
    let last : w ≡ d = between d w d' dw wd cc in
    cc

known : (deal : List Seat) (k : Facts) (q : Seat) → IsPartition deal → AreTrueOf deal k
    → is_same (in_order (least_lengths k q)) (in_order (greatest_lengths k q)) ≡ true → shape_of (hand_of deal q) ≡ in_order (least_lengths k q)
known deal k q ok are h =
    four _ _ _ _ _ _ _ _ _ _ _ _
    (low_told deal k (counts.Length q Spades) ok are) (high_told deal k (counts.Length q Spades) ok are)
    (low_told deal k (counts.Length q Hearts) ok are) (high_told deal k (counts.Length q Hearts) ok are)
    (low_told deal k (counts.Length q Diamonds) ok are) (high_told deal k (counts.Length q Diamonds) ok are)
    (low_told deal k (counts.Length q Clubs) ok are) (high_told deal k (counts.Length q Clubs) ok are)
    (equal_lists (in_order (least_lengths k q)) (in_order (greatest_lengths k q)) h)

not_true : (b : Bool) → not b ≡ true → b ≡ false
not_true false h = refl
not_true true h = absurd (cc h)

other_shape : (same : Bool) (lengths mine : List ℕ) (test : List ℕ → Bool) (truth : Bool) → (same ≡ true → mine ≡ lengths)
    → is_other test truth (if same then Some lengths else None) ≡ true → test mine ≡ not truth
other_shape true lengths mine test true is h = ap test (is refl) ∙ not_true (test lengths) h
other_shape true lengths mine test false is h = ap test (is refl) ∙ h
other_shape false lengths mine test truth is h = absurd (cc h)

tested : (deal : List Seat) (k : Facts) (q : Seat) (test : List ℕ → Bool) (truth : Bool) → IsPartition deal → AreTrueOf deal k
    → is_other test truth (shape_by k q) ≡ true → test (shape_of (hand_of deal q)) ≡ not truth
tested deal k q test truth ok are h =
    other_shape (is_same (in_order (least_lengths k q)) (in_order (greatest_lengths k q)))
    (in_order (least_lengths k q)) (shape_of (hand_of deal q)) test truth
    (known deal k q ok are) h

-- ---- trees

neither : (b c : Bool) → b ≡ false → c ≡ false → (b || c) ≡ false
neither b c h i = rw (h, i) refl

one_left : (b c : Bool) → b ≡ true → (b || c) ≡ true
one_left b c h = rw h refl

one_right : (b c : Bool) → c ≡ true → (b || c) ≡ true
one_right true c h = refl
one_right false c h = h

pub refuted : (deal : List Seat) (k : Facts) → IsPartition deal → AreTrueOf deal k → (f : Form) (truth : Bool)
    → is_refuted k truth f ≡ true → holds f deal ≡ not truth
refuted deal k ok are (any_of a b) true h =
    let two = all_true (is_refuted k true a) (is_refuted k true b) h in
    neither (holds a deal) (holds b deal) (refuted deal k ok are a true two.0) (refuted deal k ok are b true two.1)
refuted deal k ok are (any_of a b) false h =
    elim (both_sides (is_refuted k false a) (is_refuted k false b) h) [
      | inl e ↦ one_left (holds a deal) (holds b deal) (refuted deal k ok are a false e)
      | inr e ↦ one_right (holds a deal) (holds b deal) (refuted deal k ok are b false e)
    ]
refuted deal k ok are (all_of a b) true h =
    elim (both_sides (is_refuted k true a) (is_refuted k true b) h) [
      | inl e ↦ none_left (holds a deal) (holds b deal) (refuted deal k ok are a true e)
      | inr e ↦ none_right (holds a deal) (holds b deal) (refuted deal k ok are b true e)
    ]
refuted deal k ok are (all_of a b) false h =
    let two = all_true (is_refuted k false a) (is_refuted k false b) h in
    both_true (holds a deal) (holds b deal) (refuted deal k ok are a false two.0) (refuted deal k ok are b false two.1)
refuted deal k ok are (negation a) true h = ap not (refuted deal k ok are a false h)
refuted deal k ok are (negation a) false h = ap not (refuted deal k ok are a true h)
refuted deal k ok are (compare a o b) true h =
    other_relation o true (least_value k a) (greatest_value k a) (least_value k b) (greatest_value k b) (value_in deal a) (value_in deal b)
    (low_value deal k ok are a) (high_value deal k ok are a) (low_value deal k ok are b) (high_value deal k ok are b) h
refuted deal k ok are (compare a o b) false h =
    other_relation o false (least_value k a) (greatest_value k a) (least_value k b) (greatest_value k b) (value_in deal a) (value_in deal b)
    (low_value deal k ok are a) (high_value deal k ok are a) (low_value deal k ok are b) (high_value deal k ok are b) h
refuted deal k ok are (within a m n) true h =
    inside true (least_value k a) (greatest_value k a) m n (value_in deal a) (low_value deal k ok are a) (high_value deal k ok are a) h
refuted deal k ok are (within a m n) false h =
    inside false (least_value k a) (greatest_value k a) m n (value_in deal a) (low_value deal k ok are a) (high_value deal k ok are a) h
refuted deal k ok are (balanced q) true h = tested deal k q is_balanced true ok are h
refuted deal k ok are (balanced q) false h = tested deal k q is_balanced false ok are h
refuted deal k ok are (shape q ns) true h = tested deal k q (λ s. is_same s ns) true ok are h
refuted deal k ok are (shape q ns) false h = tested deal k q (λ s. is_same s ns) false ok are h
refuted deal k ok are (pattern q ns) true h = tested deal k q (λ s. is_rearrangement s ns) true ok are h
refuted deal k ok are (pattern q ns) false h = tested deal k q (λ s. is_rearrangement s ns) false ok are h
refuted deal k ok are (loose_shape q items) true h = tested deal k q (are_allowed items) true ok are h
refuted deal k ok are (loose_shape q items) false h = tested deal k q (are_allowed items) false ok are h
refuted deal k ok are (loose_pattern q items) true h = tested deal k q (are_allowed_in_some_order items) true ok are h
refuted deal k ok are (loose_pattern q items) false h = tested deal k q (are_allowed_in_some_order items) false ok are h
refuted deal k ok are (stops q s) true h = absurd (cc h)
refuted deal k ok are (stops q s) false h = absurd (cc h)
