-- Powers.
use Rattle.std.proofs.Common.{◌≡◌, ℕ, zero, suc, ◌+◌, ◌-◌, ◌*◌, ◌^◌, ◌<◌, ◌≤◌, false, eqb, sym, ap, ◌∙◌, subst, mul-le-mul_left, pow-suc, mul-one, arith}
use Rattle.std.proofs.lemmas.Bool.{ne_eqb}

pub pow_grows : (p i d : ℕ) → 1 ≤ p → p ^ i ≤ p ^ (i + d)
pow_grows p i zero h = subst (λ z. p ^ i ≤ p ^ z) (let z : i ≡ i + 0 = omega arith in z) (omega arith)
pow_grows p i (suc d) h =
    let r = pow_grows p i d h in
    let s : p ^ (i + d) * 1 ≤ p ^ (i + d) * p = mul-le-mul_left (p ^ (i + d)) h in
    let o = mul-one (p ^ (i + d)) in
    subst (λ z. p ^ i ≤ z) (sym (pow-suc p (i + d)) ∙ ap (λ z. p ^ z) (let z : suc (i + d) ≡ i + suc d = omega arith in z)) (omega arith)

pub power_step : (p i v : ℕ) → v ≡ p ^ i → v * p ≡ p ^ (i + 1)
power_step p i v e = ap (λ z. z * p) e ∙ sym (pow-suc p i) ∙ ap (λ z. p ^ z) (let z : suc i ≡ i + 1 = omega arith in z)

pub power_past : (q p i k v : ℕ) → 1 ≤ p → v ≡ p ^ i → i < k → q < v * p → false ≡ eqb q (p ^ k)
power_past q p i k v h e lt g =
    let s = power_step p i v e in
    let m : p ^ (i + 1) ≤ p ^ ((i + 1) + (k - (i + 1))) = pow_grows p (i + 1) (k - (i + 1)) h in
    let n : p ^ ((i + 1) + (k - (i + 1))) ≡ p ^ k = ap (λ z. p ^ z) (let z : (i + 1) + (k - (i + 1)) ≡ k = omega arith in z) in
    sym (ne_eqb q (p ^ k) (λ x. let z : q ≡ p ^ k = x in omega arith))
