-- Finite sums in a ring.
use Rattle.std.proofs.Common.{◌≡◌, ℕ, zero, suc, ◌<◌, ◌≤◌, sym, refl, ap, ◌∙◌, ⊎_elim, arith}
use Rattle.std.proofs.lemmas.Bool.{cases_lt}
use Rattle.algebra.specs.Ring.{Ops, CommRing}
use Rattle.algebra.specs.Curve.{sum}
use Rattle.algebra.proofs.Ring.{ring, zero_add, mul_zero}

module _ {K : Type 0} (O : Ops K) where
  pub sum_ext : (n : ℕ) (f g : ℕ → K) → ((i : ℕ) → i < n → f i ≡ g i) → sum O n f ≡ sum O n g
  unfolding sum
  sum_ext zero f g h = refl
  sum_ext (suc n) f g h = λ k. O.add (sum_ext n f g (λ i l. h i (omega arith)) k) (h n (omega arith) k)

module _ {K : Type 0} (𝓚 : CommRing K) where
  infixl 60 ◌⊕◌
  infixl 70 ◌⊗◌
  open 𝓚 use {ops as O}
  open 𝓚.ops use {zero as 𝟘, add as ◌⊕◌, mul as ◌⊗◌}

  pub sum_zero : (n : ℕ) (f : ℕ → K) → ((i : ℕ) → i < n → f i ≡ 𝟘) → sum O n f ≡ 𝟘
  unfolding sum
  sum_zero zero f h = refl
  sum_zero (suc n) f h = (λ k. sum_zero n f (λ i l. h i (omega arith)) k ⊕ h n (omega arith) k) ∙ zero_add 𝓚 𝟘

  swap : (a b c d : K) → a ⊕ b ⊕ (c ⊕ d) ≡ a ⊕ c ⊕ (b ⊕ d)
  swap a b c d = simp (ring, 𝓚)

  pub sum_add : (n : ℕ) (f g : ℕ → K) → sum O n (λ i. f i ⊕ g i) ≡ sum O n f ⊕ sum O n g
  unfolding sum
  sum_add zero f g = sym (zero_add 𝓚 𝟘)
  sum_add (suc n) f g = ap (λ x. x ⊕ (f n ⊕ g n)) (sum_add n f g) ∙ swap _ _ _ _

  pub sum_mul : (n : ℕ) (a : K) (f : ℕ → K) → sum O n (λ i. a ⊗ f i) ≡ a ⊗ sum O n f
  unfolding sum
  sum_mul zero a f = sym (mul_zero 𝓚 a)
  sum_mul (suc n) a f = ap (λ x. x ⊕ a ⊗ f n) (sum_mul n a f) ∙ sym (𝓚.mul_add a _ _)

  -- The first term taken off in front.
  pub sum_front : (n : ℕ) (f : ℕ → K) → sum O (suc n) f ≡ f 0 ⊕ sum O n (λ i. f (suc i))
  unfolding sum
  sum_front zero f = 𝓚.add_comm _ _
  sum_front (suc n) f = ap (λ x. x ⊕ f (suc n)) (sum_front n f) ∙ 𝓚.add_assoc _ _ _

  -- Terms that are zero may be added at the end.
  pub sum_pad : (m n : ℕ) (f : ℕ → K) → m ≤ n → ((i : ℕ) → m ≤ i → i < n → f i ≡ 𝟘) → sum O m f ≡ sum O n f
  unfolding sum
  sum_pad m zero f h z = ap (λ k. sum O k f) (let e : m ≡ 0 = omega arith in e)
  sum_pad m (suc n) f h z = ⊎_elim
      (λ l. sum_pad m n f (omega arith) (λ i o b. z i o (omega arith)) ∙ sym (ap (λ x. sum O n f ⊕ x) (z n (omega arith) (omega arith)) ∙ 𝓚.add_zero (sum O n f)))
      (λ l. ap (λ k. sum O k f) (let e : m ≡ suc n = omega arith in e))
      (cases_lt m (suc n))
