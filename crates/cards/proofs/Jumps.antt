-- From one candidate of a walk to its next one, and the hands of that.
use Rattle.std.proofs.Common.{◌≡◌, ℕ, ◌+◌, ◌*◌, ◌^◌, ◌<◌, ◌∙◌, Bool, List, length, ap, arith}
use Rattle.std.specs.Prelude.{Option}
use Rattle.lcg48.specs.Sequence.{seeded_state, state_after}
use Rattle.lcg48.proofs.Walks.{state_after-add}
use Rattle.cards.specs.declared.seat.Seat.{Seat}
use Rattle.std.proofs.lemmas.List.{length-map}
use Rattle.std.proofs.lemmas.List.FromFn.{length-map-range_with_len}
use Rattle.std.proofs.lemmas.Simd.{mask_l-lt}
use Rattle.cards.specs.CandidateWalks.{CandidatesView, GoesOnAt}
use Rattle.cards.specs.Candidates.{state_before}
use Rattle.cards.specs.Fixed.{candidate_around, dealt_around, free_count, places_for, seat_around}
use Rattle.cards.specs.Hands.{hand_of}
use Rattle.cards.specs.Shuffle.{pack}
use Rattle.cards.specs.internal.Dealings.{drawn_deal}
use Rattle.cards.specs.internal.Masks.{cards_of_mask, seat_mask}
use Rattle.cards.proofs.DealMasks.{cards_of_seat}

-- while hands are dealt the next candidate stays the same
pub stays : (around : List (Option Seat)) (seed k step : ℕ) (view : CandidatesView) (x stride dealt : ℕ)
    (now : List (Option Seat)) → GoesOnAt view around seed k step
    → x ≡ view.state → stride ≡ view.stride → now ≡ view.fixed
    → GoesOnAt (record { state = x; stride = stride; fixed = now; dealt = dealt }) around seed k step
stays around seed k step view x stride dealt now at x_is stride_is now_is = record {
  before = x_is ∙ at.before;
  some = at.some;
  stride_is = stride_is ∙ at.stride_is;
  fixed_are = now_is ∙ at.fixed_are;
}

-- past the draws of candidate k and of those up to the next one
pub past : (around : List (Option Seat)) (seed k step : ℕ) (view : CandidatesView) (x y stride dealt : ℕ)
    (now : List (Option Seat)) → GoesOnAt view around seed k step
    → x ≡ view.state → stride ≡ view.stride → now ≡ view.fixed → y ≡ state_after x stride
    → GoesOnAt (record { state = y; stride = stride; fixed = now; dealt = dealt }) around seed (k + step) step
past around seed k step view x y stride dealt now at x_is stride_is now_is y_is =
    let n : 51 * k + stride ≡ 51 * (k + step) = omega (arith, stride_is, at.stride_is) in
    record {
      before =
          y_is ∙ ap (λ s. state_after s stride) (x_is ∙ at.before)
          ∙ state_after-add (seeded_state seed) (51 * k) stride
          ∙ ap (state_after (seeded_state seed)) n;
      some = at.some;
      stride_is = stride_is ∙ at.stride_is;
      fixed_are = now_is ∙ at.fixed_are;
    }

-- the same by the draws that candidate k takes, and then past the others
pub past_draws : (around : List (Option Seat)) (seed k step : ℕ) (view : CandidatesView)
    (x y z taken gap stride dealt : ℕ) (now : List (Option Seat)) → GoesOnAt view around seed k step
    → x ≡ view.state → stride ≡ view.stride → now ≡ view.fixed → taken + gap ≡ stride → y ≡ state_after x taken → z ≡ state_after y gap
    → GoesOnAt (record { state = z; stride = stride; fixed = now; dealt = dealt }) around seed (k + step) step
past_draws around seed k step view x y z taken gap stride dealt now at x_is stride_is now_is whole y_is z_is =
    past around seed k step view x z stride dealt now at x_is stride_is now_is
    (z_is ∙ ap (λ s. state_after s gap) y_is ∙ state_after-add x taken gap ∙ ap (state_after x) whole)

length_drawn : (fixed : List (Option Seat)) (x : ℕ) → length (drawn_deal fixed x) ≡ 52
unfolding dealt_around pack
length_drawn fixed x = length-map-range_with_len (seat_around fixed (places_for (free_count fixed) x)) 0 52

pub mask_below : (fixed : List (Option Seat)) (x : ℕ) (q : Seat) (mask : ℕ) → mask ≡ seat_mask (drawn_deal fixed x) q → mask < 2 ^ 52
mask_below fixed x q mask is =
    let long : length (hand_of (drawn_deal fixed x) q) ≡ 52 = simp length-map (length_drawn fixed x) in
    rw is (rw long at (mask_l-lt (hand_of (drawn_deal fixed x) q)))

-- the mask of a seat's cards, as its hand in the deal of the next candidate
pub hand_there : (around : List (Option Seat)) (seed k step : ℕ) (view : CandidatesView) (x : ℕ)
    (now : List (Option Seat)) (q : Seat) (mask : ℕ) (hand : List Bool) → GoesOnAt view around seed k step
    → x ≡ view.state → now ≡ view.fixed → mask ≡ seat_mask (drawn_deal now x) q → hand ≡ cards_of_mask mask
    → hand ≡ hand_of (candidate_around around seed k) q
hand_there around seed k step view x now q mask hand at x_is now_is mask_is hand_is =
    hand_is ∙ ap cards_of_mask mask_is ∙ cards_of_seat (drawn_deal now x) q (length_drawn now x)
    ∙ ap (λ s. hand_of (drawn_deal now s) q) (x_is ∙ at.before)
    ∙ ap (λ f. hand_of (drawn_deal f (state_before seed k)) q) (now_is ∙ at.fixed_are)
