-- The measures of a hand: the table of what each counts.
use Rattle.std.specs.Prelude.{◌≡◌, ℕ, List, [], ◌∷◌, Option, Some, None, IfSome, length, refl, slice_get}
use Rattle.std.specs.Prelude.{unwrap_or}
use Rattle.cards.specs.declared.hand.Measure.{Measure}
use Rattle.cards.specs.declared.hand.Measure.TheVariants.{Hcp, Controls, Losers}

-- what an ace, a king, a queen and a jack count, if the measure counts ranks alone
abbrev pub weights_of : Measure → Option (List ℕ)
weights_of Hcp = Some (4 ∷ 3 ∷ 2 ∷ 1 ∷ [])
weights_of Controls = Some (2 ∷ 1 ∷ 0 ∷ 0 ∷ [])
weights_of Losers = None

-- four ranks are weighed
pub four_weights : (m : Measure) → IfSome (weights_of m) (λ w. length w ≡ 4)
four_weights Hcp = refl
four_weights Controls = refl
four_weights Losers = tt

-- all measures
abbrev pub measures : List Measure
measures = Hcp ∷ Controls ∷ Losers ∷ []

-- a measure's place among all, and back
abbrev pub measure_number : Measure → ℕ
measure_number Hcp = 0
measure_number Controls = 1
measure_number Losers = 2

abbrev pub measure_of_number : ℕ → Measure
measure_of_number n = unwrap_or (slice_get measures n) Hcp

pub measure_listed : (m : Measure) → slice_get measures (measure_number m) ≡ Some m
measure_listed Hcp = refl
measure_listed Controls = refl
measure_listed Losers = refl

pub measure_back : (m : Measure) → measure_of_number (measure_number m) ≡ m
measure_back m = rw (measure_listed m) refl
