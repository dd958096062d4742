-- The Hasse derivatives of a polynomial at a are the remainders of repeated division by x - a.
use Rattle.std.proofs.Common.{◌≡◌, ℕ, zero, suc, ◌<◌, List, [], ◌∷◌, map, sym, refl, ap, ◌∙◌, arith}
use Rattle.algebra.specs.Ring.{Ops, CommRing}
use Rattle.algebra.specs.Series.{ev}
use Rattle.algebra.specs.Curve.{weight}
use Rattle.algebra.proofs.Ring.{via, ring}
use Rattle.algebra.proofs.Division.{tops, div, Order}

module _ {R : Type 0} (O : Ops R) where
  -- The derivative of order u at a of the coefficients of x^i, x^(i + 1) and so on.
  abbrev pub derivative : ℕ → R → ℕ → List R → R
  derivative u a i [] = O.zero
  derivative u a i (c ∷ p) = O.add (O.mul (weight O a u i) c) (derivative u a (suc i) p)

  -- The derivative of order (u, w) at (a, b) of a curve given by its rows, the coefficients of the powers of y.
  abbrev pub derivative₂ : ℕ → ℕ → R → R → List (List R) → R
  derivative₂ u w a b Q = derivative w b 0 (map (derivative u a 0) Q)

module _ {R : Type 0} (𝓡 : CommRing R) where
  infixl 60 ◌⊕◌
  infixl 70 ◌⊗◌
  open 𝓡 use {ops as O}
  open 𝓡.ops use {zero as 𝟘, one as 𝟙, add as ◌⊕◌, mul as ◌⊗◌}

  -- A shorter name.
  abbrev D : ℕ → R → ℕ → List R → R
  D = derivative O

  -- Pascal's rule, summed.
  next_step : (a c s t x y z : R) → x ≡ a ⊗ y ⊕ z → (a ⊗ s ⊕ t) ⊗ c ⊕ x ≡ a ⊗ (s ⊗ c ⊕ y) ⊕ (t ⊗ c ⊕ z)
  next_step a c s t x y z e = via (λ k. (a ⊗ s ⊕ t) ⊗ c ⊕ k) e refl (simp (ring, 𝓡))

  next : (u : ℕ) (a : R) (i : ℕ) (p : List R) → D (suc u) a (suc i) p ≡ a ⊗ D (suc u) a i p ⊕ D u a i p
  unfolding weight
  next u a i [] = simp (ring, 𝓡)
  next u a i (c ∷ p) =
      next_step a c (weight O a (suc u) i) (weight O a u i) (D (suc u) a (suc (suc i)) p) (D (suc u) a (suc i) p) (D u a (suc i) p) (next u a (suc i) p)

  first_step : (a c s x y : R) → x ≡ a ⊗ y → a ⊗ s ⊗ c ⊕ x ≡ a ⊗ (s ⊗ c ⊕ y)
  first_step a c s x y e = via (λ k. a ⊗ s ⊗ c ⊕ k) e refl (simp (ring, 𝓡))

  first : (a : R) (i : ℕ) (p : List R) → D 0 a (suc i) p ≡ a ⊗ D 0 a i p
  unfolding weight
  first a i [] = simp (ring, 𝓡)
  first a i (c ∷ p) = first_step a c (weight O a 0 i) (D 0 a (suc (suc i)) p) (D 0 a (suc i) p) (first a (suc i) p)

  -- The derivative of order 0 is the value.
  pub derivative_ev : (a : R) (p : List R) → D 0 a 0 p ≡ ev O p a
  unfolding weight
  derivative_ev a [] = refl
  derivative_ev a (c ∷ p) = step (D 0 a 1 p) (first a 0 p ∙ ap (λ x. a ⊗ x) (derivative_ev a p))
    where
      step : (s : R) {t : R} → s ≡ a ⊗ t → 𝟙 ⊗ c ⊕ s ≡ c ⊕ a ⊗ t
      step s {t} e = via (λ x. 𝟙 ⊗ c ⊕ x) e refl (simp (ring, 𝓡))

  up : (u : ℕ) (a c : R) (p : List R) → D (suc u) a 0 (c ∷ p) ≡ a ⊗ D (suc u) a 0 p ⊕ D u a 0 p
  unfolding weight
  up u a c p = step (D (suc u) a 1 p) (next u a 0 p)
    where
      step : (s : R) {t : R} → s ≡ t → 𝟘 ⊗ c ⊕ s ≡ t
      step s e = via (λ x. 𝟘 ⊗ c ⊕ x) e refl (simp (ring, 𝓡))

  down : (a c : R) (p : List R) → D 0 a 0 (c ∷ p) ≡ c ⊕ a ⊗ D 0 a 0 p
  down a c p = derivative_ev a (c ∷ p) ∙ ap (λ x. c ⊕ a ⊗ x) (sym (derivative_ev a p))

  derivative_tops : (u : ℕ) (a : R) (p : List R) → D u a 0 (tops O a p) ≡ a ⊗ D (suc u) a 0 p ⊕ D u a 0 p
  derivative_tops u a [] = simp (ring, 𝓡)
  derivative_tops zero a (c ∷ p) =
      down a (c ⊕ a ⊗ ev O p a) (tops O a p)
      ∙ (λ i. (c ⊕ a ⊗ sym (derivative_ev a p) i) ⊕ a ⊗ derivative_tops 0 a p i)
      ∙ 𝓡.add_comm (c ⊕ a ⊗ D 0 a 0 p) (a ⊗ (a ⊗ D 1 a 0 p ⊕ D 0 a 0 p))
      ∙ (λ i. a ⊗ sym (up 0 a c p) i ⊕ sym (down a c p) i)
  derivative_tops (suc u) a (c ∷ p) =
      up u a (c ⊕ a ⊗ ev O p a) (tops O a p)
      ∙ (λ i. a ⊗ derivative_tops (suc u) a p i ⊕ derivative_tops u a p i)
      ∙ (λ i. a ⊗ sym (up (suc u) a c p) i ⊕ sym (up u a c p) i)

  -- One division lowers the order by one.
  pub derivative_div : (u : ℕ) (a : R) (p : List R) → D u a 0 (div O a p) ≡ D (suc u) a 0 p
  derivative_div u a [] = refl
  derivative_div u a (c ∷ p) = derivative_tops u a p ∙ sym (up u a c p)

  -- Where the derivatives below r are zero, the order of the root is r.
  pub derivative_order : (a : R) (r : ℕ) (p : List R) → ((u : ℕ) → u < r → D u a 0 p ≡ 𝟘) → Order O a r p
  derivative_order a zero p h = tt
  derivative_order a (suc r) p h =
      (sym (derivative_ev a p) ∙ h 0 (omega arith), derivative_order a r (div O a p) (λ u l. derivative_div u a p ∙ h (suc u) (omega arith)))
