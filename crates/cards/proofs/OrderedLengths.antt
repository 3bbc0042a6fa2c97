-- The number of an order among four: by fewer comparisons, between its bounds, and rising with the four.
use Rattle.std.proofs.Common.{◌≡◌, ◌≤◌, ◌+◌, ◌∙◌, ℕ, min, max, ap, arith}
use Rattle.cards.specs.declared.order.Order.{Order}
use Rattle.cards.specs.declared.order.Order.TheVariants.{Longest, Second, Shortest}
use Rattle.cards.specs.Orders.{greatest_of_two, greatest_ordered, least_ordered, ordered}

-- ---- the second greatest

min-max : (a b x : ℕ) → min (max a b) x ≡ max (min a x) (min b x)
min-max a b x = omega arith

min-max_right : (x a b : ℕ) → min x (max a b) ≡ max (min x a) (min x b)
min-max_right x a b = omega arith

across : (s h d c : ℕ) → min (max s h) (max d c) ≡ max (max (min s d) (min s c)) (max (min h d) (min h c))
across s h d c =
    min-max s h (max d c)
    ∙ ap (λ x. max x (min h (max d c))) (min-max_right s d c)
    ∙ ap (max (max (min s d) (min s c))) (min-max_right h d c)

pub second_by_pairs : (s h d c : ℕ) → max (max (min s h) (min d c)) (min (max s h) (max d c)) ≡ greatest_of_two s h d c
second_by_pairs s h d c = ap (max (max (min s h) (min d c))) (across s h d c)

-- ---- four numbers that add up to thirteen

longest_least : (a b c d : ℕ) → a + b + c + d ≡ 13 → 4 ≤ max (max a b) (max c d)
longest_least a b c d all = omega (arith, all)

longest_most : (a b c d : ℕ) → a + b + c + d ≡ 13 → max (max a b) (max c d) ≤ 13
longest_most a b c d all = omega (arith, all)

-- of two of them the lesser is at most six
two_most : (a b : ℕ) → a + b ≤ 13 → min a b ≤ 6
two_most a b all = omega (arith, all)

most_of_two : (a b n : ℕ) → a ≤ n → b ≤ n → max a b ≤ n
most_of_two a b n h i = omega (arith, h, i)

second_most : (a b c d : ℕ) → a + b + c + d ≡ 13 → greatest_of_two a b c d ≤ 6
second_most a b c d all =
    most_of_two (max (min a b) (min c d)) (max (max (min a c) (min a d)) (max (min b c) (min b d))) 6
    (most_of_two (min a b) (min c d) 6 (two_most a b (omega (arith, all))) (two_most c d (omega (arith, all))))
    (most_of_two (max (min a c) (min a d)) (max (min b c) (min b d)) 6
    (most_of_two (min a c) (min a d) 6 (two_most a c (omega (arith, all))) (two_most a d (omega (arith, all))))
    (most_of_two (min b c) (min b d) 6 (two_most b c (omega (arith, all))) (two_most b d (omega (arith, all)))))

shortest_most : (a b c d : ℕ) → a + b + c + d ≡ 13 → min (min a b) (min c d) ≤ 3
shortest_most a b c d all = omega (arith, all)

pub ordered_least : (o : Order) (a b c d : ℕ) → a + b + c + d ≡ 13 → least_ordered o ≤ ordered o a b c d
ordered_least Longest a b c d all = longest_least a b c d all
ordered_least Second a b c d all = omega arith
ordered_least Shortest a b c d all = omega arith

pub ordered_greatest : (o : Order) (a b c d : ℕ) → a + b + c + d ≡ 13 → ordered o a b c d ≤ greatest_ordered o
ordered_greatest Longest a b c d all = longest_most a b c d all
ordered_greatest Second a b c d all = second_most a b c d all
ordered_greatest Shortest a b c d all = shortest_most a b c d all

pub few_ordered : (o : Order) → greatest_ordered o ≤ 13
few_ordered Longest = omega arith
few_ordered x = omega arith

-- ---- greater numbers

min_le : (a b x y : ℕ) → a ≤ x → b ≤ y → min a b ≤ min x y
min_le a b x y h i = omega (arith, h, i)

max_le : (a b x y : ℕ) → a ≤ x → b ≤ y → max a b ≤ max x y
max_le a b x y h i = omega (arith, h, i)

second_le : (s h d c s' h' d' c' : ℕ) → s ≤ s' → h ≤ h' → d ≤ d' → c ≤ c' → greatest_of_two s h d c ≤ greatest_of_two s' h' d' c'
second_le s h d c s' h' d' c' i j k l =
    max_le (max (min s h) (min d c)) (max (max (min s d) (min s c)) (max (min h d) (min h c)))
    (max (min s' h') (min d' c')) (max (max (min s' d') (min s' c')) (max (min h' d') (min h' c')))
    (max_le (min s h) (min d c) (min s' h') (min d' c') (min_le s h s' h' i j) (min_le d c d' c' k l))
    (max_le (max (min s d) (min s c)) (max (min h d) (min h c)) (max (min s' d') (min s' c')) (max (min h' d') (min h' c'))
    (max_le (min s d) (min s c) (min s' d') (min s' c') (min_le s d s' d' i k) (min_le s c s' c' i l))
    (max_le (min h d) (min h c) (min h' d') (min h' c') (min_le h d h' d' j k) (min_le h c h' c' j l)))

pub ordered_le : (o : Order) (s h d c s' h' d' c' : ℕ) → s ≤ s' → h ≤ h' → d ≤ d' → c ≤ c' → ordered o s h d c ≤ ordered o s' h' d' c'
ordered_le Longest s h d c s' h' d' c' i j k l = max_le (max s h) (max d c) (max s' h') (max d' c') (max_le s h s' h' i j) (max_le d c d' c' k l)
ordered_le Second s h d c s' h' d' c' i j k l = second_le s h d c s' h' d' c' i j k l
ordered_le Shortest s h d c s' h' d' c' i j k l = min_le (min s h) (min d c) (min s' h') (min d' c') (min_le s h s' h' i j) (min_le d c d' c' k l)
