-- How a split goes on.
use Rattle.std.proofs.Common.{◌≡◌, ◌+◌, ◌-◌, ◌||◌, ◌∙◌, ℕ, suc, Bool, true, false, ap, arith, refl}
use Rattle.std.specs.List.{list_all}
use Rattle.conditions.specs.Form.{Form}
use Rattle.screens.specs.declared.unmet.facts.Facts.{Facts}
use Rattle.screens.specs.Refuted.{is_refuted}
use Rattle.screens.specs.Splits.{is_hopeless, told, tried}

or_rest : (b c : Bool) → b ≡ false → (b || c) ≡ c
or_rest b c h = rw h refl

pub unrolled : (f : Form) (u m least most : ℕ) (k : Facts) → u ≡ m + 1 → is_refuted k true f ≡ false
    → is_hopeless f u least most k ≡ list_all (λ n. is_hopeless f m (least - n) (most - n) (told m n (most - n) k)) (tried m least most k)
unfolding is_hopeless
unrolled f u m least most k e open_still =
    let is : u ≡ suc m = omega (arith, e) in
    ap (λ x. is_hopeless f x least most k) is
    ∙ or_rest (is_refuted k true f) (list_all (λ n. is_hopeless f m (least - n) (most - n) (told m n (most - n) k)) (tried m least most k)) open_still
