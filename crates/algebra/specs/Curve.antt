-- Curves: polynomials in x and y, and their multiplicity at a pair (a, b).
-- A curve is the table c of its coefficients, c i j that of x^i y^j; those with i below X and j below Y count.
use Rattle.std.specs.Prelude.{◌≡◌, ℕ, zero, suc, ◌+◌, ◌-◌, ◌*◌, ◌<◌, ◌≤◌, List, nat_lt, if◌then◌else◌}
use Rattle.algebra.specs.Ring.{Ops}
use Rattle.algebra.specs.Series.{poly, series, coefficients}

-- A table of coefficients.
abbrev pub Table : Type 0 → Type 0
Table K = ℕ → ℕ → K

-- The binomial C(i, u), by Pascal's rule.
unfoldable pub choose : ℕ → ℕ → ℕ
choose i zero = 1
choose zero (suc u) = 0
choose (suc i) (suc u) = choose i u + choose i (suc u)

module _ {K : Type 0} (O : Ops K) where
  infixl 60 ◌⊕◌
  infixl 70 ◌⊗◌
  open O use {zero as 𝟘, one as 𝟙, add as ◌⊕◌, mul as ◌⊗◌}

  -- The sum f 0 + .. + f (n - 1).
  unfoldable pub sum : ℕ → (ℕ → K) → K
  sum zero f = 𝟘
  sum (suc n) f = sum n f ⊕ f n

  -- The multiple x + .. + x, n times.
  unfoldable pub times : ℕ → K → K
  times zero x = 𝟘
  times (suc n) x = times n x ⊕ x

  -- The power a^n.
  unfoldable pub power : K → ℕ → K
  power a zero = 𝟙
  power a (suc n) = a ⊗ power a n

  -- C(i, u) C(j, w) c(i, j) a^(i - u) b^(j - w). The binomials are sums of ones, and 0 where i < u or j < w.
  unfoldable pub term : K → K → ℕ → ℕ → Table K → ℕ → ℕ → K
  term a b u w c i j = times (choose i u) 𝟙 ⊗ times (choose j w) 𝟙 ⊗ c i j ⊗ power a (i - u) ⊗ power b (j - w)

  -- The Hasse derivative of order u in x and w in y, at (a, b).
  -- Plain derivatives carry the factor u! w!, which is zero in small characteristic, and would lose conditions.
  unfoldable pub hasse : (X Y : ℕ) → K → K → ℕ → ℕ → Table K → K
  hasse X Y a b u w c = sum Y (λ j. sum X (λ i. term a b u w c i j))

  -- Multiplicity r at (a, b): every derivative of order below r is zero there.
  abbrev pub Multiplicity : (X Y r : ℕ) → K → K → Table K → Type 0
  Multiplicity X Y r a b c = (u w : ℕ) → u + w < r → hasse X Y a b u w c ≡ 𝟘

  -- Multiplicity r at each of the N pairs (xs t, ys t).
  abbrev pub Through : (X Y r N : ℕ) → (ℕ → K) → (ℕ → K) → Table K → Type 0
  Through X Y r N xs ys c = (t : ℕ) → t < N → Multiplicity X Y r (xs t) (ys t) c

  -- Weighted degree below m, with the weights 1 for x and v for y.
  abbrev pub DegreeBelow : (X Y v m : ℕ) → Table K → Type 0
  DegreeBelow X Y v m c = (i j : ℕ) → i < X → j < Y → m ≤ i + v * j → c i j ≡ 𝟘

  -- Some coefficient is not zero.
  abbrev pub Nonzero : (X Y : ℕ) → Table K → Type 0
  Nonzero X Y c = (i : ℕ) × (j : ℕ) × (i < X) × (j < Y) × ¬ (c i j ≡ 𝟘)

  -- The coefficient of y^j, a power series in x.
  unfoldable pub row : ℕ → Table K → ℕ → ℕ → K
  row X c j i = if nat_lt i X then c i j else 𝟘

  -- The series y put for y gives zero.
  unfoldable pub ZeroAt : (X Y : ℕ) → Table K → (ℕ → K) → Type 0
  ZeroAt X Y c y = poly (series O) Y (row X c) y ≡ (series O).zero

  -- The polynomial f lies on the curve: c(x, f(x)) is zero.
  abbrev pub Lies : (X Y : ℕ) → Table K → List K → Type 0
  Lies X Y c f = ZeroAt X Y c (coefficients O f)

  -- The weight of x^i in the derivative of order u at a, C(i, u) a^(i - u), by Pascal's rule.
  unfoldable pub weight : K → ℕ → ℕ → K
  weight a zero zero = 𝟙
  weight a (suc u) zero = 𝟘
  weight a zero (suc i) = a ⊗ weight a zero i
  weight a (suc u) (suc i) = a ⊗ weight a (suc u) i ⊕ weight a u i

  -- The sum h 0 f 0 + .. + h (n - 1) f (n - 1), in which h has the weights.
  unfoldable pub dot : ℕ → (ℕ → K) → (ℕ → K) → K
  dot n h f = sum n (λ i. h i ⊗ f i)

  -- The Hasse derivative as a program computes it: each row under the weights of x, then the rows under those of y.
  unfoldable pub discrepancy : (X Y : ℕ) → K → K → ℕ → ℕ → Table K → K
  discrepancy X Y a b u w c = dot Y (weight b w) (λ j. dot X (weight a u) (λ i. c i j))
