-- The weights are the binomials of the definition: the Hasse derivative is what a program computes.
use Rattle.std.proofs.Common.{◌≡◌, ℕ, zero, suc, ◌+◌, ◌-◌, ◌<◌, sym, refl, ap, ◌∙◌, add-zero, add-suc, arith}
use native.Mathlib.Decide.{dec_lt}
use Rattle.algebra.specs.Ring.{CommRing}
use Rattle.algebra.specs.Curve.{Table, choose, times, power, term, hasse, weight, dot, discrepancy}
use Rattle.algebra.proofs.Ring.{ring, zero_add, mul_zero, zero_mul}
use Rattle.algebra.proofs.Sums.{sum_ext, sum_mul}

choose_past : (i u : ℕ) → i < u → choose i u ≡ 0
unfolding choose
choose_past i zero h = absurd (omega arith)
choose_past zero (suc u) h = refl
choose_past (suc i) (suc u) h = let p = choose_past i u (omega arith) in let q = choose_past i (suc u) (omega arith) in omega arith

module _ {K : Type 0} (𝓚 : CommRing K) where
  infixl 60 ◌⊕◌
  infixl 70 ◌⊗◌
  infixr 80 ◌^◌
  open 𝓚 use {ops as O}
  open 𝓚.ops use {zero as 𝟘, one as 𝟙, add as ◌⊕◌, mul as ◌⊗◌}

  -- Shorter names.
  abbrev multiple : ℕ → K → K
  multiple = times O

  abbrev ◌^◌ : K → ℕ → K
  a ^ n = power O a n

  times_add : (k l : ℕ) (x : K) → multiple (k + l) x ≡ multiple k x ⊕ multiple l x
  unfolding times
  times_add k zero x = rw add-zero (sym (𝓚.add_zero _))
  times_add k (suc l) x = rw add-suc (ap (λ t. t ⊕ x) (times_add k l x) ∙ 𝓚.add_assoc _ _ _)

  mul_times : (a : K) (k : ℕ) (x : K) → a ⊗ multiple k x ≡ multiple k (a ⊗ x)
  unfolding times
  mul_times a zero x = mul_zero 𝓚 a
  mul_times a (suc k) x = 𝓚.mul_add _ _ _ ∙ ap (λ t. t ⊕ a ⊗ x) (mul_times a k x)

  -- A multiple is a product with a sum of ones.
  more : (k x : K) → k ⊗ x ⊕ x ≡ (k ⊕ 𝟙) ⊗ x
  more k x = simp (ring, 𝓚)

  times_ones : (k : ℕ) (x : K) → multiple k x ≡ multiple k 𝟙 ⊗ x
  unfolding times
  times_ones zero x = sym (zero_mul 𝓚 x)
  times_ones (suc k) x = ap (λ t. t ⊕ x) (times_ones k x) ∙ more (multiple k 𝟙) x

  once : (x : K) → multiple 1 x ≡ x
  unfolding times
  once x = zero_add 𝓚 x

  power_next : (a : K) (n k : ℕ) → n ≡ suc k → a ^ n ≡ a ⊗ a ^ k
  unfolding power
  power_next a n k e = ap (power O a) e

  lift_power : (a : K) (i u : ℕ) → a ⊗ multiple (choose i (suc u)) (a ^ (i - suc u)) ≡ multiple (choose i (suc u)) (a ^ (i - u))
  unfolding times
  lift_power a i u = go (dec_lt u i)
    where
      go : Dec (u < i) → a ⊗ multiple (choose i (suc u)) (a ^ (i - suc u)) ≡ multiple (choose i (suc u)) (a ^ (i - u))
      go (yes h) = mul_times a _ _ ∙ ap (multiple (choose i (suc u))) (sym (power_next a (i - u) (i - suc u) (omega arith)))
      go (no h) = rw (choose_past i (suc u) (omega arith)) (mul_zero 𝓚 a)

  -- The weight is C(i, u) a^(i - u).
  pub weight_is : (a : K) (u i : ℕ) → weight O a u i ≡ multiple (choose i u) (a ^ (i - u))
  unfolding weight choose
  weight_is a zero zero = unfold power in sym (once 𝟙)
  weight_is a (suc u) zero = unfold times in refl
  weight_is a zero (suc i) =
      ap (λ x. a ⊗ x) (weight_is a zero i ∙ once _) ∙ sym (power_next a (suc i - 0) (i - 0) (omega arith)) ∙ sym (once _)
  weight_is a (suc u) (suc i) =
      let e : suc i - suc u ≡ i - u = omega arith in
      ap (λ t. t ⊕ weight O a u i) (ap (λ x. a ⊗ x) (weight_is a (suc u) i) ∙ lift_power a i u)
      ∙ ap (λ x. multiple (choose i (suc u)) (a ^ (i - u)) ⊕ x) (weight_is a u i)
      ∙ 𝓚.add_comm _ _
      ∙ sym (times_add (choose i u) (choose i (suc u)) (a ^ (i - u)))
      ∙ ap (λ t. multiple (choose i u + choose i (suc u)) (a ^ t)) (sym e)

  shuffle : (p q c x y : K) → p ⊗ q ⊗ c ⊗ x ⊗ y ≡ q ⊗ y ⊗ (p ⊗ x ⊗ c)
  shuffle p q c x y = simp (ring, 𝓚)

  -- The definition with binomials and the sums with weights are the same.
  pub hasse_is : (X Y : ℕ) (a b : K) (u w : ℕ) (c : Table K) → hasse O X Y a b u w c ≡ discrepancy O X Y a b u w c
  unfolding hasse discrepancy dot term
  hasse_is X Y a b u w c =
      sum_ext O Y _ _ (λ j l.
      sum_ext O X _ _ (λ i k.
      shuffle _ _ _ _ _
      ∙ ap (λ t. t ⊗ (multiple (choose i u) 𝟙 ⊗ a ^ (i - u) ⊗ c i j)) (sym (times_ones _ _) ∙ sym (weight_is b w j))
      ∙ ap (λ t. weight O b w j ⊗ (t ⊗ c i j)) (sym (times_ones _ _) ∙ sym (weight_is a u i)))
      ∙ sum_mul 𝓚 X (weight O b w j) _)
