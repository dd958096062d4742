-- Sums of numbers, and how many monomials and conditions there are.
use Rattle.std.proofs.Common.{◌≡◌, ℕ, zero, suc, ◌+◌, ◌-◌, ◌*◌, ◌<◌, ◌≤◌, min, Bool, true, false, cond, leb, ◌≢◌, refl, arith, leb-false, leb-true}
use native.Mathlib.Decide.{ℕ_discrete}
use Rattle.algebra.specs.Interpolation.{total, triangle, monomials}

pub total_same : (n : ℕ) (f g : ℕ → ℕ) → ((j : ℕ) → j < n → g j ≡ f j) → total n g ≡ total n f
unfolding total
total_same zero f g h = refl
total_same (suc n) f g h = let r = total_same n f g (λ j l. h j (omega arith)) in let s = h n (omega arith) in omega arith

pub total_le : (n : ℕ) (f g : ℕ → ℕ) → ((j : ℕ) → j < n → g j ≤ f j) → total n g ≤ total n f
unfolding total
total_le zero f g h = omega arith
total_le (suc n) f g h = let r = total_le n f g (λ j l. h j (omega arith)) in let s = h n (omega arith) in omega arith

pub total_zero : (n : ℕ) → total n (λ _. 0) ≡ 0
unfolding total
total_zero zero = refl
total_zero (suc n) = let r = total_zero n in omega arith

-- One entry is one more.
pub total_bump : (n p : ℕ) (f g : ℕ → ℕ) → p < n → g p ≡ suc (f p) → ((j : ℕ) → j < n → j ≢ p → g j ≡ f j) → total n g ≡ suc (total n f)
unfolding total
total_bump zero p f g lt e h = absurd (omega arith)
total_bump (suc n) p f g lt e h = go (ℕ_discrete n p) (λ l. total_bump n p f g l e (λ j l k. h j (omega arith) k))
  where
    go : Dec (n ≡ p) → (p < n → total n g ≡ suc (total n f)) → total (suc n) g ≡ suc (total (suc n) f)
    go (yes q) _ =
        let r = total_same n f g (λ j l. h j (omega arith) (omega arith)) in
        let s : g n ≡ suc (f n) = rw q e in
        omega arith
    go (no q) rec =
        let r = rec (omega arith) in
        let s = h n (omega arith) q in
        omega arith

total_within : (n s D : ℕ) → total n (λ i. cond (leb (i + s) D) 1 0) ≡ min n (suc D - s)
unfolding total
total_within zero s D = omega arith
total_within (suc n) s D = go (leb (n + s) D) refl (total_within n s D)
  where
    go : (t : Bool) → leb (n + s) D ≡ t → total n (λ i. cond (leb (i + s) D) 1 0) ≡ min n (suc D - s) →
        total n (λ i. cond (leb (i + s) D) 1 0) + cond t 1 0 ≡ min (suc n) (suc D - s)
    go true e h = let l = leb-true (n + s) D e in omega arith
    go false e h = let l = leb-false (n + s) D e in omega arith

-- The row j has D + 1 - v j monomials.
pub monomials_is : (Y v D : ℕ) → monomials Y v D ≡ total Y (λ j. suc D - v * j)
unfolding monomials
monomials_is Y v D = total_same Y _ _ (λ j l. let e = total_within (suc D) (v * j) D in omega arith)

halves : (r k : ℕ) → k ≤ r → 2 * total k (λ w. r - w) + k * k ≡ k * (2 * r + 1)
unfolding total
halves r zero h = omega arith
halves r (suc k) h = let e = halves r k (omega arith) in omega arith

-- A pair of multiplicity r has r (r + 1) / 2 conditions.
pub triangle_is : (r : ℕ) → 2 * triangle r ≡ r * (r + 1)
unfolding triangle
triangle_is r = let e = halves r r (omega arith) in omega arith

-- If no curve is live, the leads have used up every monomial.
pub all_dead : (Y v D : ℕ) (lead : ℕ → ℕ) → ((j : ℕ) → j < Y → D < lead j + v * j) → monomials Y v D ≤ total Y lead
all_dead Y v D lead h = let e = monomials_is Y v D in let t = total_le Y lead (λ j. suc D - v * j) (λ j l. let k = h j l in omega arith) in omega arith
