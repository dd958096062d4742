-- What the code's steps show of the counting rule.
use Rattle.std.proofs.Common.{ℕ, suc, ◌+◌, ◌-◌, ◌*◌, ◌/◌, ◌<◌, ◌≤◌, mul-le-mul, mul-le-mul_left, mul-le-mul_right, mul-one, arith}
use Rattle.algebra.specs.Interpolation.{monomials}
use Rattle.algebra.proofs.Totals.{monomials_is}
use Rattle.counting.proofs.Monomials.{total_le}

pub grown : (t r : ℕ) → 1 ≤ r → 64 < t → 63 < r * t - 1
grown t r h l = let a : 1 * t ≤ r * t = mul-le-mul_right t h in omega arith

pub room_le : (v d : ℕ) → d ≤ 63 → monomials 16 v d ≤ 1024
room_le v d h =
    let b = total_le 16 64 (λ j. suc d - v * j) (λ j. omega arith) in
    let e = monomials_is 16 v d in
    omega arith

-- there are at least as many conditions as letters
pub conditions_low : (N r : ℕ) → 1 ≤ r → N ≤ N * r * (r + 1) / 2
conditions_low N r h =
    let a : N * 1 ≤ N * r = mul-le-mul_left N h in
    let two : 2 ≤ r + 1 = omega arith in
    let b : N * 1 * 2 ≤ N * r * (r + 1) = mul-le-mul a two in
    let e = mul-one N in
    omega arith
