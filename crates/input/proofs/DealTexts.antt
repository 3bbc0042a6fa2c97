-- The seat and the hands of a Deal tag's value.
use Rattle.std.proofs.Common.{◌≡◌, ◌<◌, ◌≤◌, ℕ, List, [], ◌∷◌, length, drop, take, get_or, None, refl, arith, eq-eqb}
use Rattle.std.proofs.lemmas.Bool.{ne_eqb}
use Rattle.input.specs.DealValues.{deal_in, hands_tell}
use Rattle.input.specs.Values.{dealer_in}

pub short_value : (value : List ℕ) → length value < 2 → deal_in value ≡ None
unfolding deal_in
short_value [] h = refl
short_value (b ∷ []) h = refl
short_value (b ∷ c ∷ hands) h = absurd (omega arith)

pub no_colon : (value : List ℕ) → 2 ≤ length value → (get_or value 1 0 ≡ 58 → ⊥) → deal_in value ≡ None
unfolding deal_in
no_colon [] h other = absurd (omega arith)
no_colon (b ∷ []) h other = absurd (omega arith)
no_colon (b ∷ c ∷ hands) h other = rw (ne_eqb c 58 other) refl

pub seat_and_hands : (value : List ℕ) → 2 ≤ length value → get_or value 1 0 ≡ 58
    → deal_in value ≡ hands_tell (dealer_in (take 1 value)) (drop 2 value)
unfolding deal_in
seat_and_hands [] h colon = absurd (omega arith)
seat_and_hands (b ∷ []) h colon = absurd (omega arith)
seat_and_hands (b ∷ c ∷ hands) h colon = rw (eq-eqb c 58 colon) refl
