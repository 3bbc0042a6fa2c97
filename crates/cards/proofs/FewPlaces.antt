-- The places of a shuffle of m items, above which everything stays.
use Rattle.std.proofs.Common.{◌≡◌, ℕ, zero, suc, ◌+◌, ◌-◌, ◌<◌, ◌≤◌, true, false, get_or, refl, sym, ap, ◌∙◌, arith, subst, inl, inr}
use Rattle.std.specs.Prelude.{ltb, if◌then◌else◌}
use Rattle.std.proofs.lemmas.Bool.{cases_lt}
use Rattle.std.proofs.lemmas.Bool.Decides.{nat_tests}
use Rattle.std.proofs.lemmas.List.FromFn.{fill_by_all, get_or-map-range_with_len, length-map-range_with_len}
use Rattle.lcg48.specs.Sequence.{state_after}
use Rattle.cards.specs.Shuffle.{IsPlaces, place_of, place_at, other_of, traced, card_at, drawn_places}
use Rattle.cards.specs.Deals.{position_of}
use Rattle.cards.specs.Fixed.{places_for}
use Rattle.cards.proofs.Tracing.{other_of-below, place_at-below, traced-above}
use Rattle.cards.proofs.Dealing.{card_at-position_of, position_of-card_at}
use Rattle.cards.proofs.Drawing.{state-below, place-below}

abbrev place_for_item : ℕ → ℕ → ℕ → ℕ
place_for_item m x i = if ltb (m + i) 52 then 51 - i else place_of (52 - i) (state_after x (m + i - 51))

item_at : (m x i : ℕ) → i < 51 → get_or (places_for m x) i 0 ≡ place_for_item m x i
unfolding places_for
item_at m x i h = get_or-map-range_with_len (place_for_item m x) 0 51 i i 0 h (omega arith)

pub is_less : (a b : ℕ) → a < b → ltb a b ≡ true
is_less a b h = grind (arith, nat_tests)

pub isn't_less : (a b : ℕ) → b ≤ a → ltb a b ≡ false
isn't_less a b h = grind (arith, nat_tests)

-- an item that stays
pub stays_at : (m x i : ℕ) → i < 51 → m + i < 52 → get_or (places_for m x) i 0 ≡ 51 - i
stays_at m x i h few = item_at m x i h ∙ rw (is_less (m + i) 52 few) refl

-- an item whose place is drawn
pub drawn_at : (m x i : ℕ) → i < 51 → 52 ≤ m + i → get_or (places_for m x) i 0 ≡ place_of (52 - i) (state_after x (m + i - 51))
drawn_at m x i h many = item_at m x i h ∙ rw (isn't_less (m + i) 52 many) refl

drawn_below : (m x i : ℕ) → i < 51 → 52 ≤ m + i → place_of (52 - i) (state_after x (m + i - 51)) < 52 - i
drawn_below m x i h many =
    let e : m + i - 51 ≡ m + i - 52 + 1 = omega arith in
    rw e (place-below (52 - i) (state_after x (m + i - 52 + 1)) (omega arith) (state-below x (m + i - 52)))

pub are_places : (m x : ℕ) → IsPlaces (places_for m x)
unfolding places_for
are_places m x = record {
  count = length-map-range_with_len (place_for_item m x) 0 51;
  below = λ i h. elim (cases_lt (m + i) 52) [
    | inl few ↦ omega (arith, stays_at m x i h few)
    | inr many ↦ omega (arith, drawn_at m x i h (omega arith), drawn_below m x i h (omega arith))
  ];
}

-- the places of all 52 cards
pub same_places : (x : ℕ) → places_for 52 x ≡ drawn_places x
unfolding places_for drawn_places
same_places x =
    fill_by_all (λ i. place_of (52 - i) (state_after x (i + 1))) (places_for 52 x) 51 0 (are_places 52 x).count
    (λ i h.
    let e : 52 + i - 51 ≡ i + 1 = omega arith in
    drawn_at 52 x i h (omega arith) ∙ ap (λ n. place_of (52 - i) (state_after x n)) e)

pub drawn_are_places : (x : ℕ) → IsPlaces (drawn_places x)
drawn_are_places x = subst IsPlaces (same_places x) (are_places 52 x)

nothing_moves : (a t : ℕ) → other_of a a t ≡ t
nothing_moves a t = grind (arith, nat_tests)

-- the exchanges above m change nothing
pub traced_past : (m x i k : ℕ) → m - 1 + k ≤ 51 → traced (places_for m x) i (m - 1 + k) ≡ traced (places_for m x) i (m - 1)
unfolding traced
traced_past m x i zero h = let e : m - 1 + 0 ≡ m - 1 = omega arith in rw e refl
traced_past m x i (suc k) h =
    let n : ℕ = m - 1 + k in
    let e : m - 1 + suc k ≡ suc n = omega arith in
    let at : place_at (places_for m x) (n + 2) ≡ 51 - (52 - (n + 2)) = stays_at m x (52 - (n + 2)) (omega arith) (omega arith) in
    let same : place_at (places_for m x) (n + 2) ≡ n + 1 = omega (arith, at) in
    ap (traced (places_for m x) i) e ∙ ap (λ b. other_of (n + 1) b (traced (places_for m x) i n)) same
    ∙ nothing_moves (n + 1) (traced (places_for m x) i n) ∙ traced_past m x i k (omega arith)

pub traced_all : (m x i : ℕ) → m ≤ 52 → traced (places_for m x) i (m - 1) ≡ card_at (places_for m x) i
unfolding card_at
traced_all m x i few =
    let k : ℕ = 51 - (m - 1) in
    let e : m - 1 + k ≡ 51 = omega arith in
    sym (traced_past m x i k (omega arith)) ∙ ap (traced (places_for m x) i) e

traced_under : (m x i n : ℕ) → m ≤ 52 → i < m → n < m → traced (places_for m x) i n < m
unfolding traced
traced_under m x i zero few h below = h
traced_under m x i (suc n) few h below =
    other_of-below (n + 1) (place_at (places_for m x) (n + 2)) (traced (places_for m x) i n) m (omega arith)
    (omega (arith, place_at-below (places_for m x) n (are_places m x) (omega arith))) (traced_under m x i n few h (omega arith))

-- the first m positions have the first m items
pub item_below : (m x i : ℕ) → m ≤ 52 → i < m → card_at (places_for m x) i < m
item_below m x i few h = omega (arith, traced_all m x i few, traced_under m x i (m - 1) few h (omega arith))

item_above : (m x i : ℕ) → m ≤ 52 → m ≤ i → i < 52 → card_at (places_for m x) i ≡ i
unfolding traced
item_above m x i few above inside =
    elim (cases_lt (m - 1) i) [
      | inl less ↦ sym (traced_all m x i few) ∙ traced-above (places_for m x) i (m - 1) (are_places m x) inside less
      | inr none ↦
          let e : m - 1 ≡ zero = omega arith in
          sym (traced_all m x i few) ∙ ap (traced (places_for m x) i) e
    ]

pub position_below : (m x k : ℕ) → m ≤ 52 → k < m → position_of (places_for m x) k < m
position_below m x k few h =
    let at = card_at-position_of (places_for m x) k (are_places m x) (omega arith) in
    elim (cases_lt (position_of (places_for m x) k) m) [
      | inl less ↦ less
      | inr more ↦ absurd (omega (arith, at.1, item_above m x (position_of (places_for m x) k) few (omega arith) at.0))
    ]

pub position_above : (m x k : ℕ) → m ≤ 52 → m ≤ k → k < 52 → position_of (places_for m x) k ≡ k
position_above m x k few above inside =
    ap (position_of (places_for m x)) (sym (item_above m x k few above inside)) ∙ position_of-card_at (places_for m x) k inside
