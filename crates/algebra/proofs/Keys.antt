-- The order of the monomials.
use Rattle.std.proofs.Common.{◌≡◌, ℕ, suc, ◌+◌, ◌*◌, ◌<◌, ap, ⊎_elim, suc-add, mul-le-mul_left, mul-suc, arith}
use Rattle.std.proofs.lemmas.Bool.{cases_lt}
use Rattle.algebra.specs.Interpolation.{key}

-- One power of x more.
pub key_suc : (Y v i j : ℕ) → key Y v (suc i) j ≡ key Y v i j + Y
unfolding key
key_suc Y v i j = let e = ap (λ n. Y * n) (suc-add i (v * j)) in let f = mul-suc Y (i + v * j) in omega arith

-- A lower weighted degree comes first.
pub key_less : (Y v i j i' k : ℕ) → j < Y → i + v * j < i' + v * k → key Y v i j < key Y v i' k
unfolding key
key_less Y v i j i' k l h = let e = mul-le-mul_left Y h in let f = mul-suc Y (i + v * j) in omega arith

-- Monomials of different powers of y have different keys.
pub key_apart : (Y v i j i' k : ℕ) → j < Y → k < Y → key Y v i j ≡ key Y v i' k → j ≡ k
unfolding key
key_apart Y v i j i' k hj hk e = ⊎_elim
    (λ l. absurd (let s = key_less Y v i j i' k hj l in omega arith))
    (λ l. ⊎_elim
    (λ m. absurd (let s = key_less Y v i' k i j hk m in omega arith))
    (λ m. let f = ap (λ n. Y * n) (let z : i + v * j ≡ i' + v * k = omega arith in z) in omega arith)
    (cases_lt (i' + v * k) (i + v * j)))
    (cases_lt (i + v * j) (i' + v * k))
