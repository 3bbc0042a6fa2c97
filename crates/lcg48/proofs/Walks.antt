-- Steps one after another: m steps and then n are m + n.
use Rattle.std.proofs.Common.{◌≡◌, ℕ, zero, suc, ◌+◌, refl, sym, ◌∙◌, ap, arith}
use Rattle.lcg48.specs.Sequence.{step, state_after}

pub state_after-none : (x : ℕ) → state_after x 0 ≡ x
unfolding state_after
state_after-none x = refl

pub state_after-add : (x m n : ℕ) → state_after (state_after x m) n ≡ state_after x (m + n)
unfolding state_after
state_after-add x m zero = ap (state_after x) (let e : m ≡ m + 0 = omega arith in e)
state_after-add x m (suc n) =
    let e : m + suc n ≡ suc (m + n) = omega arith in ap step (state_after-add x m n) ∙ sym (ap (state_after x) e)
