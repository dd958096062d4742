-- A polynomial put for y in a curve that is given by its rows, the coefficients of the powers of y:
-- how long the result is, and that it is the curve's value.
use Rattle.std.proofs.Common.{◌≡◌, ℕ, zero, suc, ◌+◌, ◌-◌, ◌<◌, ◌≤◌, max, List, [], ◌∷◌, length, sym, refl, ap, ◌∙◌, arith}
use mathlib.Core.Path.{fun_ext}
use Rattle.algebra.specs.Ring.{Ops, CommRing}
use Rattle.algebra.specs.Series.{AllZero, const, 𝕏, coefficients}
use Rattle.algebra.proofs.Ring as Ring
use Rattle.algebra.proofs.Ring.{ring}
use Rattle.algebra.proofs.Horner.{horner_add, horner_scale}
use Rattle.algebra.proofs.Series.{𝓢, const_zero, const_add, const_mul, x_mul}

-- Weighted degree below m, with the weight v of y: the row j has at most m - v j coefficients.
abbrev pub Fits : {A : Type 0} → ℕ → ℕ → List (List A) → Type 0
Fits v m [] = Unit {0}
Fits v m (q ∷ Q) = (length q ≤ m) × Fits v (m - v) Q

module _ {R : Type 0} (O : Ops R) where
  infixl 60 ◌⊕◌
  infixl 70 ◌⊗◌
  open O use {zero as 𝟘, add as ◌⊕◌, mul as ◌⊗◌}

  -- The sum of two polynomials.
  abbrev pub padd : List R → List R → List R
  padd [] q = q
  padd (c ∷ p) [] = c ∷ p
  padd (c ∷ p) (d ∷ q) = (c ⊕ d) ∷ padd p q

  -- A multiple of a polynomial.
  abbrev pub scale : R → List R → List R
  scale c [] = []
  scale c (d ∷ p) = c ⊗ d ∷ scale c p

  -- The product of two polynomials.
  abbrev pub pmul : List R → List R → List R
  pmul f [] = []
  pmul f (d ∷ p) = padd (scale d f) (𝟘 ∷ pmul f p)

  -- The polynomial f put for y, by Horner's rule.
  abbrev pub comp : List (List R) → List R → List R
  comp [] f = []
  comp (q ∷ Q) f = padd q (pmul f (comp Q f))

module _ {R : Type 0} (𝓡 : CommRing R) where
  open 𝓡 use {ops as O}

  length_padd : (p q : List R) → length (padd O p q) ≡ max (length p) (length q)
  length_padd [] q = omega arith
  length_padd (c ∷ p) [] = omega arith
  length_padd (c ∷ p) (d ∷ q) = omega (arith, length_padd p q)

  length_scale : (c : R) (p : List R) → length (scale O c p) ≡ length p
  length_scale c [] = refl
  length_scale c (d ∷ p) = ap suc (length_scale c p)

  length_pmul : (f p : List R) (d : R) → 0 < length f → length (pmul O f (d ∷ p)) ≤ length f + length p
  length_pmul f [] d h = omega (arith, length_padd (scale O d f) (O.zero ∷ []), length_scale d f)
  length_pmul f (e ∷ p) d h =
      omega (arith, length_padd (scale O d f) (O.zero ∷ pmul O f (e ∷ p)), length_scale d f, length_pmul f p e h)

  -- A curve of weighted degree below m gives at most m coefficients with a polynomial of suc v coefficients put for y.
  pub length_comp : (Q : List (List R)) (f : List R) (v m : ℕ) → length f ≡ suc v → Fits v m Q → length (comp O Q f) ≤ m
  length_comp [] f v m e t = omega arith
  length_comp (q ∷ Q) f v m e t = go (comp O Q f) (length_comp Q f v (m - v) e t.1)
    where
      go : (p : List R) → length p ≤ m - v → length (padd O q (pmul O f p)) ≤ m
      go [] l = omega (arith, length_padd q [], t.0)
      go (d ∷ p) l = omega (arith, length_padd q (pmul O f (d ∷ p)), length_pmul f p d (omega arith), t.0)

-- Ring equations that the inductions below cite.
module _ {R : Type 0} (𝓡 : CommRing R) where
  infixl 60 ◌⊕◌
  infixl 70 ◌⊗◌
  open 𝓡 use {ops as O}
  open 𝓡.ops use {zero as 𝟘, one as 𝟙, add as ◌⊕◌, mul as ◌⊗◌}

  mul_step : (d f z s x p : R) → z ≡ 𝟘 → x ≡ f ⊗ p → d ⊗ f ⊕ (z ⊕ s ⊗ x) ≡ f ⊗ (d ⊕ s ⊗ p)
  mul_step d f z s x p e g = (λ i. d ⊗ f ⊕ (e i ⊕ s ⊗ g i)) ∙ simp (ring, 𝓡)

module _ {K : Type 0} (𝓚 : CommRing K) where
  infixl 60 ◌⊕◌ ◌⊞◌
  infixl 70 ◌⊗◌ ◌⊠◌
  open 𝓚 use {ops as O}
  open 𝓚.ops use {zero as 𝟘, one as 𝟙, add as ◌⊕◌, mul as ◌⊗◌}
  open (𝓢 𝓚).ops use {zero as ∅, add as ◌⊞◌, mul as ◌⊠◌}

  -- The value of a polynomial at a series, and of a curve at two.
  abbrev pub ev_series : List K → (ℕ → K) → ℕ → K
  ev_series [] s = ∅
  ev_series (c ∷ q) s = const O c ⊞ s ⊠ ev_series q s

  abbrev pub ev₂ : List (List K) → (ℕ → K) → (ℕ → K) → ℕ → K
  ev₂ [] s y = ∅
  ev₂ (q ∷ Q) s y = ev_series q s ⊞ y ⊠ ev₂ Q s y

  pub ev_series_padd : (p q : List K) (s : ℕ → K) → ev_series (padd O p q) s ≡ ev_series p s ⊞ ev_series q s
  ev_series_padd [] q s = sym (Ring.zero_add (𝓢 𝓚) (ev_series q s))
  ev_series_padd (c ∷ p) [] s = sym (Ring.add_zero (𝓢 𝓚) (ev_series (c ∷ p) s))
  ev_series_padd (c ∷ p) (d ∷ q) s =
      horner_add (𝓢 𝓚) (const O (c ⊕ d)) (const O c) (const O d) s (ev_series (padd O p q) s) (ev_series p s) (ev_series q s) (const_add 𝓚 c d) (ev_series_padd p q s)

  pub ev_series_scale : (c : K) (p : List K) (s : ℕ → K) → ev_series (scale O c p) s ≡ const O c ⊠ ev_series p s
  ev_series_scale c [] s = sym (Ring.mul_zero (𝓢 𝓚) (const O c))
  ev_series_scale c (d ∷ p) s =
      horner_scale (𝓢 𝓚) (const O (c ⊗ d)) (const O c) (const O d) s (ev_series (scale O c p) s) (ev_series p s) (const_mul 𝓚 c d) (ev_series_scale c p s)

  ev_series_pmul : (f p : List K) (s : ℕ → K) → ev_series (pmul O f p) s ≡ ev_series f s ⊠ ev_series p s
  ev_series_pmul f [] s = sym (Ring.mul_zero (𝓢 𝓚) (ev_series f s))
  ev_series_pmul f (d ∷ p) s =
      ev_series_padd (scale O d f) (𝟘 ∷ pmul O f p) s
      ∙ ap (λ x. x ⊞ ev_series (𝟘 ∷ pmul O f p) s) (ev_series_scale d f s)
      ∙ mul_step (𝓢 𝓚) (const O d) (ev_series f s) (const O 𝟘) s (ev_series (pmul O f p) s) (ev_series p s) (const_zero 𝓚) (ev_series_pmul f p s)

  pub ev_series_comp : (Q : List (List K)) (f : List K) (s : ℕ → K) → ev_series (comp O Q f) s ≡ ev₂ Q s (ev_series f s)
  ev_series_comp [] f s = refl
  ev_series_comp (q ∷ Q) f s =
      ev_series_padd q (pmul O f (comp O Q f)) s
      ∙ ap (λ x. ev_series q s ⊞ x) (ev_series_pmul f (comp O Q f) s ∙ ap (λ x. ev_series f s ⊠ x) (ev_series_comp Q f s))

  -- The value at x is the polynomial as a series.
  at_0 : (c : K) (q : List K) → ev_series (c ∷ q) (𝕏 O) 0 ≡ c
  at_0 c q = ap (λ x. c ⊕ x) (Ring.zero_mul 𝓚 (ev_series q (𝕏 O) 0)) ∙ 𝓚.add_zero c

  at_suc : (c : K) (q : List K) (n : ℕ) → ev_series (c ∷ q) (𝕏 O) (suc n) ≡ ev_series q (𝕏 O) n
  at_suc c q n = Ring.zero_add 𝓚 ((𝕏 O ⊠ ev_series q (𝕏 O)) (suc n)) ∙ x_mul 𝓚 (ev_series q (𝕏 O)) n

  pub ev_series_coefficients : (q : List K) → ev_series q (𝕏 O) ≡ coefficients O q
  ev_series_coefficients q = fun_ext (at q)
    where
      at : (q : List K) (n : ℕ) → ev_series q (𝕏 O) n ≡ coefficients O q n
      at [] n = refl
      at (c ∷ q) zero = at_0 c q
      at (c ∷ q) (suc n) = at_suc c q n ∙ at q n

  pub ev_series_zero : (q : List K) (s : ℕ → K) → AllZero O q → ev_series q s ≡ ∅
  ev_series_zero [] s t = refl
  ev_series_zero (c ∷ q) s t =
      (λ i. (ap (const O) t.0 ∙ const_zero 𝓚) i ⊞ s ⊠ ev_series_zero q s t.1 i)
      ∙ Ring.zero_add (𝓢 𝓚) (s ⊠ ∅) ∙ Ring.mul_zero (𝓢 𝓚) s
