-- A tree that some whole tears is met by no deal around the fixed cards.
use Rattle.std.proofs.Common.{◌≡◌, ◌&&◌, ◌||◌, Bool, true, false, List, [], ◌∷◌, Option, arith, inl, inr}
use Rattle.std.specs.List.{list_any, range_with_len}
use Rattle.cards.specs.declared.hand.Measure.{Measure}
use Rattle.cards.specs.declared.hand.Measure.TheVariants.{Hcp, Controls, Losers}
use Rattle.cards.specs.declared.honours.Honours.{Honours}
use Rattle.cards.specs.declared.seat.Seat.{Seat}
use Rattle.cards.specs.Deals.{all_seats}
use Rattle.cards.specs.Fixed.{IsFixed}
use Rattle.conditions.specs.Form.{Form}
use Rattle.conditions.specs.Meaning.{holds}
use Rattle.screens.specs.declared.unmet.wholes.Whole.{Whole}
use Rattle.screens.specs.Facts.{AreTrueOf}
use Rattle.screens.specs.Completions.{Keeps}
use Rattle.screens.specs.Torn.{all_suits, asks_ranks, hands_tear, is_torn, is_torn_by_measure, is_torn_by_ranks}
use Rattle.screens.specs.Torn.{is_torn_in, ranks_tear, shapes_tear, suit_measures_tear, suit_ranks_tear, suits_tear}
use Rattle.screens.specs.Wholes.{IsWholeOf, facts_on, hand_measure, hand_shape, honours_by, pack_measure, pack_ranks}
use Rattle.screens.specs.Wholes.{suit_lengths, suit_measure, suit_ranks}
use Rattle.screens.proofs.Holding.{fact_holds}
use Rattle.screens.proofs.Splitting.{hopeless}
use Rattle.screens.proofs.Truths.{all_true, both_sides}
use Rattle.screens.proofs.WholeSums.{by_controls, by_hand, by_hcp, by_lengths, by_ranks, by_shape, by_suit_controls, by_suit_hcp, by_suit_ranks}

some : {X : Type 0} (p : X → Bool) (b : Bool) → ((x : X) → p x ≡ true → b ≡ false) → (xs : List X) → list_any p xs ≡ true → b ≡ false
some p b each [] h = absurd (cc h)
some p b each (x ∷ xs) h =
    elim (both_sides (p x) (list_any p xs) h) [
      | inl e ↦ each x e
      | inr rest ↦ some p b each xs rest
    ]

either : (a c b : Bool) → (a ≡ true → b ≡ false) → (c ≡ true → b ≡ false) → (a || c) ≡ true → b ≡ false
either a c b left right h =
    elim (both_sides a c h) [
      | inl e ↦ left e
      | inr e ↦ right e
    ]

module _ (fixed : List (Option Seat)) (deal : List Seat) (f : Form) (is : IsFixed fixed) (keeps : Keeps fixed deal) where
  in_whole : (w : Whole) → IsWholeOf deal w → is_torn_in fixed f w ≡ true → holds f deal ≡ false
  unfolding is_torn_in
  in_whole w whole h =
      let are : AreTrueOf deal (facts_on fixed w) = record {
        first = fact_holds fixed deal w.first is keeps;
        second = fact_holds fixed deal w.second is keeps;
        third = fact_holds fixed deal w.third is keeps;
        fourth = fact_holds fixed deal w.fourth is keeps;
      } in
      hopeless deal f keeps.partition 4 w.least w.most (facts_on fixed w) (omega arith) are (omega (arith, whole.low)) (omega (arith, whole.high)) h

  in_shapes : shapes_tear fixed f ≡ true → holds f deal ≡ false
  unfolding shapes_tear
  in_shapes h = some (λ q. is_torn_in fixed f (hand_shape q)) (holds f deal)
      (λ q e. in_whole (hand_shape q) (by_shape deal keeps.partition q) e) all_seats h

  in_suits : suits_tear fixed f ≡ true → holds f deal ≡ false
  unfolding suits_tear
  in_suits h = some (λ s. is_torn_in fixed f (suit_lengths s)) (holds f deal)
      (λ s e. in_whole (suit_lengths s) (by_lengths deal keeps.partition s) e) all_suits h

  in_hands : (m : Measure) → hands_tear fixed m f ≡ true → holds f deal ≡ false
  unfolding hands_tear
  in_hands m h = some (λ q. is_torn_in fixed f (hand_measure m q)) (holds f deal)
      (λ q e. in_whole (hand_measure m q) (by_hand deal keeps.partition m q) e) all_seats h

  in_suit_measures : (m : Measure) → ((s : _) → IsWholeOf deal (suit_measure m s)) → suit_measures_tear fixed m f ≡ true → holds f deal ≡ false
  unfolding suit_measures_tear
  in_suit_measures m each h = some (λ s. is_torn_in fixed f (suit_measure m s)) (holds f deal)
      (λ s e. in_whole (suit_measure m s) (each s) e) all_suits h

  in_suit_ranks : (r : Honours) → suit_ranks_tear fixed r f ≡ true → holds f deal ≡ false
  unfolding suit_ranks_tear
  in_suit_ranks r h = some (λ s. is_torn_in fixed f (suit_ranks r s)) (holds f deal)
      (λ s e. in_whole (suit_ranks r s) (by_suit_ranks deal keeps.partition r s) e) all_suits h

  in_measure : (m : Measure) → IsWholeOf deal (pack_measure m) → ((s : _) → IsWholeOf deal (suit_measure m s))
      → is_torn_by_measure fixed m f ≡ true → holds f deal ≡ false
  unfolding is_torn_by_measure
  in_measure m all each h =
      either (is_torn_in fixed f (pack_measure m)) (hands_tear fixed m f || suit_measures_tear fixed m f)
      (holds f deal) (in_whole (pack_measure m) all)
      (either (hands_tear fixed m f) (suit_measures_tear fixed m f) (holds f deal) (in_hands m) (in_suit_measures m each)) h

  by_these_ranks : (r : Honours) → is_torn_by_ranks fixed r f ≡ true → holds f deal ≡ false
  unfolding is_torn_by_ranks
  by_these_ranks r h =
      either (is_torn_in fixed f (pack_ranks r)) (suit_ranks_tear fixed r f) (holds f deal)
      (in_whole (pack_ranks r) (by_ranks deal keeps.partition r)) (in_suit_ranks r) h

  in_ranks : ranks_tear fixed f ≡ true → holds f deal ≡ false
  unfolding ranks_tear
  in_ranks h = some (λ n. is_torn_by_ranks fixed (honours_by n) f) (holds f deal) (λ n e. by_these_ranks (honours_by n) e) (range_with_len 1 31) h

  pub torn : is_torn fixed f ≡ true → holds f deal ≡ false
  unfolding is_torn
  torn h =
      either (is_torn_by_measure fixed Hcp f) _ (holds f deal) (in_measure Hcp (by_hcp deal keeps.partition) (by_suit_hcp deal keeps.partition))
      (either (shapes_tear fixed f) _ (holds f deal) in_shapes
      (either (suits_tear fixed f) _ (holds f deal) in_suits
      (either (is_torn_by_measure fixed Controls f) _ (holds f deal)
      (in_measure Controls (by_controls deal keeps.partition) (by_suit_controls deal keeps.partition))
      (either (hands_tear fixed Losers f) (asks_ranks f && ranks_tear fixed f) (holds f deal) (in_hands Losers)
      (λ e. in_ranks (all_true (asks_ranks f) (ranks_tear fixed f) e).1))))) h
