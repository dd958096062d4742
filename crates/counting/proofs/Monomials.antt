-- How many monomials there are, and the count at t = n.
use Rattle.std.proofs.Common.{◌≡◌, ℕ, zero, suc, ◌+◌, ◌-◌, ◌*◌, ◌/◌, ◌<◌, ◌≤◌, Bool, true, false, cond, is_some, Some, sym, refl, ap, ◌∙◌, subst, mul-zero, mul-one, mul-div_cancel, arith}
use Rattle.std.proofs.lemmas.Bool.{le-leb, lt-ltb, and_from}
use Rattle.algebra.proofs.Totals.{monomials_is}
use Rattle.algebra.specs.Interpolation.{total, monomials}
use Rattle.counting.specs.Counting.{Limits, suits, smallest, in_reach}

pub total_le : (J b : ℕ) (f : ℕ → ℕ) → ((j : ℕ) → f j ≤ b) → total J f ≤ J * b
unfolding total
total_le zero b f h = omega arith
total_le (suc J) b f h = let r = total_le J b f h in let s = h J in omega arith

total_mono : (J K : ℕ) (f : ℕ → ℕ) → total J f ≤ total (K + J) f
unfolding total
total_mono J zero f = (let z : total J f ≤ total J f = omega arith in subst (λ z. total J f ≤ total z f) (let e : J ≡ 0 + J = omega arith in e) z)
total_mono J (suc K) f =
    let r = total_mono J K f in
    subst (λ z. total J f ≤ total z f) (let e : suc (K + J) ≡ suc K + J = omega arith in e) (let s : total J f ≤ total (K + J) f + f (K + J) = omega arith in s)

-- two columns have more than D + 1 monomials, where v is at most D
two_columns : (K v D : ℕ) → v ≤ D → suc D < monomials (suc (suc K)) v D
unfolding total
two_columns K v D h =
    let m = total_mono 2 K (λ j. suc D - v * j) in
    let z = mul-zero v in
    let o = mul-one v in
    subst (λ z. suc D < z) (sym (monomials_is (suc (suc K)) v D))
    (subst (λ z. suc D < total z (λ j. suc D - v * j)) (let e : K + 2 ≡ suc (suc K) = omega arith in e) (omega arith))

half : (a : ℕ) → a * 1 * 2 / 2 ≡ a
half a = mul-div_cancel (a * 1) (let h : 0 < 2 = omega arith in h) ∙ mul-one a

-- load n is in reach at t = n by multiplicity 1
pub suits_one : (L : Limits) (v n : ℕ) → 1 ≤ L.power → n ≤ suc L.degree → v < n → suits L v n n 1 ≡ true
unfolding suits
suits_one L v n y d h =
    let e : 1 * n - 1 ≡ n - 1 = omega arith in
    and_from _ _ (le-leb (1 * n - 1) L.degree (omega arith))
    (lt-ltb (n * 1 * (1 + 1) / 2) _
    (let w = two_columns (L.power - 1) v (n - 1) (omega arith) in
    let p : suc (suc (L.power - 1)) ≡ suc L.power = omega arith in
    let w2 : suc (n - 1) < monomials (suc L.power) v (1 * n - 1) = subst (λ z. suc (n - 1) < monomials (suc L.power) v z) (sym e) (subst (λ z. suc (n - 1) < monomials z v (n - 1)) p w) in
    let f = half n in
    omega arith))

pub smallest_some : (test : ℕ → Bool) (b left i : ℕ) → b ≤ i → i < b + left → test i ≡ true → is_some (smallest test b left) ≡ true
smallest_some test b zero i lo hi e = absurd (omega arith)
smallest_some test b (suc left) i lo hi e =
    elim (test b) as (λ z. (b ≡ i → z ≡ true) → is_some (cond z (Some b) (smallest test (suc b) left)) ≡ true) [
      | true ↦ (λ _. refl)
      | false ↦ (λ ne. smallest_some test (suc b) left i (let n : b ≡ i → ⊥ = λ q. let w : ◌≡◌ {A = ℕ} 0 1 = (let g = ne q in cc) in omega arith in omega arith) (omega arith) e)
    ]
    (λ q. ap test q ∙ e)

pub reach_top : (L : Limits) (v n : ℕ) → 1 ≤ L.multiplicity → 1 ≤ L.power → n ≤ suc L.degree → v < n → in_reach L v n n ≡ true
reach_top L v n r y d h = smallest_some (suits L v n n) 1 L.multiplicity 1 (omega arith) (omega arith) (suits_one L v n y d h)
