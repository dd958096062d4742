-- Polynomials whose coefficients are given by a function, by Horner's rule; over power series, their value at x = 0 and division by x.
use Rattle.std.proofs.Common.{◌≡◌, ℕ, zero, suc, ◌+◌, ◌<◌, sym, refl, ap, ◌∙◌, arith}
use mathlib.Core.Path.{fun_ext}
use Rattle.algebra.specs.Ring.{CommRing}
use Rattle.algebra.specs.Series.{ev, poly, tail, 𝕏, series}
use Rattle.algebra.proofs.Ring.{ring, mul_zero}
use Rattle.algebra.proofs.Lists.{tab}
use Rattle.algebra.proofs.Series.{𝓢, x_tail, x_out}

module _ {R : Type 0} (𝓡 : CommRing R) where
  infixl 60 ◌⊕◌
  infixl 70 ◌⊗◌
  open 𝓡 use {ops as O}
  open 𝓡.ops use {zero as 𝟘, add as ◌⊕◌, mul as ◌⊗◌}

  pub poly_ext : (n : ℕ) (P Q : ℕ → R) (y : R) → ((j : ℕ) → j < n → P j ≡ Q j) → poly O n P y ≡ poly O n Q y
  poly_ext zero P Q y h = refl
  poly_ext (suc n) P Q y h = λ i. h 0 (omega arith) i ⊕ y ⊗ poly_ext n (λ j. P (suc j)) (λ j. Q (suc j)) y (λ j l. h (suc j) (omega arith)) i

  pub poly_zero : (n : ℕ) (y : R) → poly O n (λ _. 𝟘) y ≡ 𝟘
  poly_zero zero y = refl
  poly_zero (suc n) y = ap (λ x. 𝟘 ⊕ y ⊗ x) (poly_zero n y) ∙ simp (ring, 𝓡)

  -- Horner's rule takes a factor out,
  pub horner_scale : (k c d s x p : R) → k ≡ c ⊗ d → x ≡ c ⊗ p → k ⊕ s ⊗ x ≡ c ⊗ (d ⊕ s ⊗ p)
  horner_scale k c d s x p e f = (λ i. e i ⊕ s ⊗ f i) ∙ simp (ring, 𝓡)

  pub poly_scale : (n : ℕ) (a : R) (P : ℕ → R) (y : R) → poly O n (λ j. a ⊗ P j) y ≡ a ⊗ poly O n P y
  poly_scale zero a P y = sym (mul_zero 𝓡 a)
  poly_scale (suc n) a P y = horner_scale _ a (P 0) y _ (poly O n (λ j. P (suc j)) y) refl (poly_scale n a (λ j. P (suc j)) y)

  -- and takes a sum apart.
  pub horner_add : (k c d s x p q : R) → k ≡ c ⊕ d → x ≡ p ⊕ q → k ⊕ s ⊗ x ≡ (c ⊕ s ⊗ p) ⊕ (d ⊕ s ⊗ q)
  horner_add k c d s x p q e f = (λ i. e i ⊕ s ⊗ f i) ∙ simp (ring, 𝓡)

  pub poly_add : (n : ℕ) (P Q : ℕ → R) (y : R) → poly O n (λ j. P j ⊕ Q j) y ≡ poly O n P y ⊕ poly O n Q y
  poly_add zero P Q y = sym (𝓡.add_zero 𝟘)
  poly_add (suc n) P Q y =
      horner_add _ (P 0) (Q 0) y _ (poly O n (λ j. P (suc j)) y) (poly O n (λ j. Q (suc j)) y) refl (poly_add n (λ j. P (suc j)) (λ j. Q (suc j)) y)

  top_step : (p y : R) → p ≡ 𝟘 → p ⊕ y ⊗ 𝟘 ≡ 𝟘
  top_step p y e = ap (λ x. x ⊕ y ⊗ 𝟘) e ∙ simp (ring, 𝓡)

  pub poly_top : (n : ℕ) (P : ℕ → R) (y : R) → P n ≡ 𝟘 → poly O (suc n) P y ≡ poly O n P y
  poly_top zero P y e = top_step (P 0) y e
  poly_top (suc n) P y e = ap (λ x. P 0 ⊕ y ⊗ x) (poly_top n (λ j. P (suc j)) y e)

  side : (a r x y p t v : R) → a ⊗ p ⊕ r ⊕ y ⊗ (a ⊗ t ⊕ x ⊗ v) ≡ r ⊕ a ⊗ (p ⊕ y ⊗ t) ⊕ x ⊗ y ⊗ v
  side a r x y p t v = simp (ring, 𝓡)

  other : (a r x y v : R) → r ⊕ a ⊗ v ⊕ x ⊗ y ⊗ v ≡ r ⊕ (a ⊕ x ⊗ y) ⊗ v
  other a r x y v = simp (ring, 𝓡)

  turn : (a r x y p q t v : R) → q ≡ a ⊗ p ⊕ r → p ⊕ y ⊗ t ≡ v → q ⊕ y ⊗ (a ⊗ t ⊕ x ⊗ v) ≡ r ⊕ (a ⊕ x ⊗ y) ⊗ v
  turn a r x y p q t v e f = (λ i. e i ⊕ y ⊗ (a ⊗ t ⊕ x ⊗ v)) ∙ side a r x y p t v ∙ (λ i. r ⊕ a ⊗ f i ⊕ x ⊗ y ⊗ v) ∙ other a r x y v

  -- One step of Horner's rule at a + x y: Q is (a + x y) P + r, the last coefficient of P being zero.
  pub poly_turn : (n : ℕ) (a r x : R) (P Q : ℕ → R) (y : R) → Q 0 ≡ a ⊗ P 0 ⊕ r → ((j : ℕ) → j < n → Q (suc j) ≡ a ⊗ P (suc j) ⊕ x ⊗ P j) → P n ≡ 𝟘
      → poly O (suc n) Q y ≡ r ⊕ (a ⊕ x ⊗ y) ⊗ poly O (suc n) P y
  poly_turn n a r x P Q y e f z =
      ap (λ u. Q 0 ⊕ y ⊗ u)
      (poly_ext n (λ j. Q (suc j)) (λ j. a ⊗ P (suc j) ⊕ x ⊗ P j) y f
      ∙ poly_add n (λ j. a ⊗ P (suc j)) (λ j. x ⊗ P j) y
      ∙ (λ i. poly_scale n a (λ j. P (suc j)) y i ⊕ (poly_scale n x P y ∙ ap (λ u. x ⊗ u) (sym (poly_top n P y z))) i))
      ∙ turn a r x y (P 0) (Q 0) (poly O n (λ j. P (suc j)) y) (poly O (suc n) P y) e refl

  -- The same polynomial as a list.
  pub ev_tab : (n : ℕ) (P : ℕ → R) (y : R) → ev O (tab n P) y ≡ poly O n P y
  ev_tab zero P y = refl
  ev_tab (suc n) P y = ap (λ x. P 0 ⊕ y ⊗ x) (ev_tab n (λ j. P (suc j)) y)

module _ {K : Type 0} (𝓚 : CommRing K) where
  infixl 60 ◌⊕◌ ◌⊞◌
  infixl 70 ◌⊗◌ ◌⊠◌
  open 𝓚 use {ops as O}
  open 𝓚.ops use {zero as 𝟘, add as ◌⊕◌, mul as ◌⊗◌}
  open (𝓢 𝓚).ops use {zero as ∅, add as ◌⊞◌, mul as ◌⊠◌}

  -- The value at x = 0.
  pub poly_first : (n : ℕ) (P : ℕ → ℕ → K) (y : ℕ → K) → poly (series O) n P y 0 ≡ poly O n (λ j. P j 0) (y 0)
  poly_first zero P y = refl
  poly_first (suc n) P y = ap (λ u. P 0 0 ⊕ y 0 ⊗ u) (poly_first n (λ j. P (suc j)) y)

  -- Division by x.
  down_one : (n : ℕ) (P : ℕ → ℕ → K) (y : ℕ → K) → ((j : ℕ) → j < n → P j 0 ≡ 𝟘) → poly (series O) n P y ≡ ∅ → poly (series O) n (λ j. tail (P j)) y ≡ ∅
  down_one n P y z e =
      x_out 𝓚 _ (sym (poly_ext (𝓢 𝓚) n P (λ j. 𝕏 O ⊠ tail (P j)) y (λ j l. x_tail 𝓚 (P j) (z j l)) ∙ poly_scale (𝓢 𝓚) n (𝕏 O) (λ j. tail (P j)) y) ∙ e)

  -- Division by x^m: where the first m coefficients of each row are zero, the curve without them is zero too.
  pub down : (m n : ℕ) (P : ℕ → ℕ → K) (y : ℕ → K) → ((i : ℕ) → i < m → (j : ℕ) → j < n → P j i ≡ 𝟘) → poly (series O) n P y ≡ ∅ → poly (series O) n (λ j i. P j (m + i)) y ≡ ∅
  down zero n P y z e = poly_ext (𝓢 𝓚) n (λ j i. P j (0 + i)) P y (λ j l. fun_ext (λ i. ap (P j) (let q : 0 + i ≡ i = omega arith in q))) ∙ e
  down (suc m) n P y z e =
      poly_ext (𝓢 𝓚) n (λ j i. P j (suc m + i)) (λ j i. P j (suc (m + i))) y (λ j l. fun_ext (λ i. ap (P j) (let q : suc m + i ≡ suc (m + i) = omega arith in q)))
      ∙ down m n (λ j. tail (P j)) y (λ i l. z (suc i) (omega arith)) (down_one n P y (z 0 (omega arith)) e)
