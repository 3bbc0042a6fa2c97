-- Numbers of few digits are small.
use Rattle.std.proofs.Common.{ℕ, ◌<◌, ◌≤◌, ◌^◌, arith, lit<}
use Rattle.std.proofs.Math.Nat.{pow-le-pow_right}

-- a number of at most 12 digits
pub below_tens : (v n : ℕ) → v < 10 ^ n → n ≤ 12 → v < 1000000000000
below_tens v n small few =
    let most : 10 ^ n ≤ 10 ^ 12 = pow-le-pow_right (lit< tt) few in
    omega arith
