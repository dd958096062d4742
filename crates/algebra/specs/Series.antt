-- Polynomials in one variable, as lists of coefficients with the constant one first, and power series.
use Rattle.std.specs.Prelude.{◌≡◌, ℕ, zero, suc, List, [], ◌∷◌}
use Rattle.algebra.specs.Ring.{Ops}
use Rattle.algebra.specs.Lists.{Each}

module _ {R : Type 0} (O : Ops R) where
  infixl 60 ◌⊕◌
  infixl 70 ◌⊗◌
  open O use {zero as 𝟘, add as ◌⊕◌, mul as ◌⊗◌}

  -- The value at a point, by Horner's rule.
  abbrev pub ev : List R → R → R
  ev [] a = 𝟘
  ev (c ∷ p) a = c ⊕ a ⊗ ev p a

  -- Every coefficient is zero.
  abbrev pub AllZero : List R → Type 0
  AllZero p = Each (λ c. c ≡ 𝟘) p

  -- The value p 0 + p 1 y + .. + p (n - 1) y^(n - 1), the coefficients given by a function.
  abbrev pub poly : ℕ → (ℕ → R) → R → R
  poly zero p y = 𝟘
  poly (suc n) p y = p 0 ⊕ y ⊗ poly n (λ j. p (suc j)) y

-- A power series is the function of its coefficients. This one lacks the constant coefficient, and is divided by x.
abbrev pub tail : {K : Type 0} → (ℕ → K) → ℕ → K
tail f n = f (suc n)

module _ {K : Type 0} (O : Ops K) where
  infixl 60 ◌⊕◌ ◌⊖◌
  infixl 70 ◌⊗◌
  open O use {zero as 𝟘, one as 𝟙, add as ◌⊕◌, sub as ◌⊖◌, mul as ◌⊗◌}

  -- The product: the coefficient n is the sum of the f i g (n - i).
  abbrev pub smul : (ℕ → K) → (ℕ → K) → ℕ → K
  smul f g zero = f 0 ⊗ g 0
  smul f g (suc n) = f 0 ⊗ g (suc n) ⊕ smul (tail f) g n

  -- An element as a series.
  abbrev pub const : K → ℕ → K
  const c zero = c
  const c (suc n) = 𝟘

  -- The series x.
  abbrev pub 𝕏 : ℕ → K
  𝕏 zero = 𝟘
  𝕏 (suc n) = const 𝟙 n

  -- The operations of power series.
  abbrev pub series : Ops (ℕ → K)
  series = record { zero = λ n. 𝟘; one = const 𝟙; add = λ f g n. f n ⊕ g n; sub = λ f g n. f n ⊖ g n; mul = smul }

  -- A polynomial as a series: its coefficients, and zero after them.
  abbrev pub coefficients : List K → ℕ → K
  coefficients [] n = 𝟘
  coefficients (c ∷ p) zero = c
  coefficients (c ∷ p) (suc n) = coefficients p n
