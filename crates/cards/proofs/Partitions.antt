-- The deal of any list of places, and so each candidate, is a partition.
use Rattle.std.proofs.Common.{◌≡◌, ℕ, zero, suc, ◌-◌, ◌<◌, ◌≤◌, List, length, get_or, map, refl, sym, ap, ◌∙◌, subst, arith}
use Rattle.std.specs.List.{swap}
use Rattle.std.specs.List.Sorted.{IsPermutation}
use Rattle.std.proofs.lemmas.List.Sorted.{IsPermutation-refl, IsPermutation-swap, IsPermutation-trans, length_permutation}
use Rattle.std.proofs.lemmas.List.FromFn.{fill_by_all}
use Rattle.cards.specs.Shuffle.{IsPlaces, card_at, drawn_places, pack}
use Rattle.cards.specs.Deals.{IsPartition, dealt}
use Rattle.cards.specs.Candidates.{candidate, state_before}
use Rattle.cards.specs.internal.Exchanges.{IsTraced}
use Rattle.cards.proofs.Tracing.{length-pack, before_exchanges, exchange, traced-none}
use Rattle.cards.proofs.Dealing.{dealt-partition}
use Rattle.cards.proofs.FewPlaces.{drawn_are_places}

long : (places cards : List ℕ) (n : ℕ) → IsTraced places cards n → length cards ≡ 52
long places cards n ok = length_permutation pack cards ok.whole ∙ length-pack

-- a pack in order, with all exchanges to come
pub traced_at_first : (places : List ℕ) → IsPlaces places → IsTraced places pack 51
traced_at_first places ok = record {
  whole = IsPermutation-refl pack;
  card = λ i h. before_exchanges places i ok h;
}

pub traced_on : (places old new : List ℕ) (place p : ℕ) → IsPlaces places → 0 < p → p < 52
    → place ≡ get_or places (51 - p) 0 → new ≡ swap old p place → IsPermutation old new → IsTraced places old p
    → IsTraced places new (p - 1)
traced_on places old new place p ok above below read is moved before = record {
  whole = IsPermutation-trans pack old new before.whole moved;
  card = λ i h. exchange places old new place p i ok (long places old p before) above below read is ∙ before.card i h;
}

-- the cards after the first n exchanges
exchanged : (places : List ℕ) → IsPlaces places → (n : ℕ) → n ≤ 51 → (cards : List ℕ) × IsTraced places cards (51 - n)
exchanged places ok zero le = (pack, traced_at_first places ok)
exchanged places ok (suc n) le =
    let before = exchanged places ok n (omega arith) in
    let p : ℕ = 51 - n in
    let place : ℕ = get_or places (51 - p) 0 in
    let count = long places before.0 p before.1 in
    let below : place < 52 - (51 - p) = ok.below (51 - p) (omega arith) in
    let moved : IsPermutation before.0 (swap before.0 p place) =
    IsPermutation-swap before.0 (swap before.0 p place) p place (omega (arith, count))
    (omega (arith, count, below)) refl in
    let next : p - 1 ≡ 51 - suc n = omega arith in (
      swap before.0 p place,
      subst (IsTraced places (swap before.0 p place)) next
          (traced_on places before.0 (swap before.0 p place) place p ok (omega arith) (omega arith) refl refl moved
          before.1),
    )

dealt_is_partition : (places cards : List ℕ) (n : ℕ) → n ≡ 0 → IsTraced places cards n → IsPartition (dealt places)
dealt_is_partition places cards n none ok =
    dealt-partition places cards ok.whole (λ i h. ap (λ x. get_or cards x 0) (sym (traced-none places i n none)) ∙ ok.card i h)

pub dealt_partition : (places : List ℕ) → IsPlaces places → IsPartition (dealt places)
dealt_partition places ok = let all = exchanged places ok 51 (omega arith) in dealt_is_partition places all.0 0 refl all.1

-- the cards at the positions are the pack's
pub positions_whole : (places : List ℕ) → IsPlaces places → IsPermutation pack (map (card_at places) pack)
unfolding pack
positions_whole places ok =
    let all = exchanged places ok 51 (omega arith) in
    let cards : List ℕ = all.0 in
    let traced : IsTraced places cards 0 = all.1 in
    let at : (i : ℕ) → i < 52 → get_or cards i 0 ≡ card_at places i =
    λ i h. ap (λ x. get_or cards x 0) (sym (traced-none places i 0 refl)) ∙ traced.card i h in
    subst (IsPermutation pack) (fill_by_all (card_at places) cards 52 0 (long places cards 0 traced) at) traced.whole

pub candidate_partition : (seed k : ℕ) → IsPartition (candidate seed k)
candidate_partition seed k = dealt_partition (drawn_places (state_before seed k)) (drawn_are_places (state_before seed k))
