-- The theorems of list recovery, over a field: what the polynomials through many of the pairs have to do with a curve.
use Rattle.std.specs.Prelude.{◌≡◌, ℕ, zero, suc, ◌+◌, ◌-◌, ◌*◌, ◌/◌, ◌<◌, ◌≤◌, List, length, ◌≢◌}
use Rattle.algebra.specs.Ring.{Field}
use Rattle.algebra.specs.Lists.{Each, Distinct}
use Rattle.algebra.specs.Series.{ev}
use Rattle.algebra.specs.Curve.{Table, Through, DegreeBelow, Nonzero, Lies}
use Rattle.algebra.specs.Interpolation.{monomials, PairsDone, PlacesDone, Step, Fitted, Ended}
use Rattle.algebra.specs.Walk.{Met}

-- A decision, counted.
abbrev pub one_if : {P : Type 0} → Dec P → ℕ
one_if (yes h) = 1
one_if (no h) = 0

-- No two of the first N pairs (xs t, ys t) are equal.
abbrev pub Apart : {K : Type 0} → (ℕ → K) → (ℕ → K) → ℕ → Type 0
Apart xs ys N = (s t : ℕ) → s < t → t < N → xs s ≡ xs t → ys s ≢ ys t

module _ {K : Type 0} (𝓕 : Field K) where
  open 𝓕 use {ring, same}

  -- How many of the first N pairs the polynomial f passes through.
  abbrev pub agreed : List K → (ℕ → K) → (ℕ → K) → ℕ → ℕ
  agreed f xs ys zero = 0
  agreed f xs ys (suc n) = agreed f xs ys n + one_if (same (ev ring.ops f (xs n)) (ys n))

  -- A polynomial of v + 1 coefficients through t different pairs, at which a curve of weighted degree below m has multiplicity r, lies on it.
  abbrev pub Vanishing : (r t m : ℕ) → Type 0
  Vanishing r t m =
      (X Y v N : ℕ) (c : Table K) (f : List K) (xs ys : ℕ → K)
      → length f ≡ suc v → DegreeBelow ring.ops X Y v m c → Apart xs ys N → Through ring.ops X Y r N xs ys c
      → t ≤ agreed f xs ys N → Lies ring.ops X Y c f

  -- On a curve that is not zero, with Y rows, there lie fewer than s polynomials of k coefficients.
  abbrev pub Few : (Y s : ℕ) → Type 0
  Few Y s =
      (X k : ℕ) (c : Table K) (fs : List (List K))
      → Nonzero ring.ops X Y c → Each (λ f. length f ≡ k) fs → Distinct fs → Each (Lies ring.ops X Y c) fs
      → length fs < s

  -- Two polynomials of k coefficients that agree at n different points are equal.
  abbrev pub Unique : (k n : ℕ) → Type 0
  Unique k n =
      (f g points : List K) → length f ≡ k → length g ≡ k → Distinct points → n ≤ length points
      → Each (λ a. ev ring.ops f a ≡ ev ring.ops g a) points → f ≡ g

  -- A step of the interpolation at the next condition keeps the invariant, as long as the columns hold the degree D.
  abbrev pub StepKeeps : (X D : ℕ) → Type 0
  StepKeeps X D =
      (Y v r t w u p : ℕ) (xs ys : ℕ → K) (curves : ℕ → Table K) (lead : ℕ → ℕ) (curves' : ℕ → Table K) (lead' : ℕ → ℕ)
      → Step ring.ops X Y v D (xs t) (ys t) u w p curves lead curves' lead'
      → PlacesDone ring.ops X Y v D r xs ys t w u curves lead → PlacesDone ring.ops X Y v D r xs ys t w (suc u) curves' lead'

  -- When N pairs are done, and the monomials of weighted degree D at most exceed the conditions, some curve is live, and a live curve is fitted.
  abbrev pub RunEnds : (r N conditions : ℕ) → Type 0
  RunEnds r N conditions =
      (X Y v D : ℕ) (xs ys : ℕ → K) (curves : ℕ → Table K) (lead : ℕ → ℕ) → D < X → PairsDone ring.ops X Y v D r xs ys N curves lead
      → conditions < monomials Y v D → Ended ring.ops X Y v D r N xs ys curves lead

  -- So a curve that is not zero, of weighted degree D at most and multiplicity r at N pairs, exists.
  abbrev pub Interpolates : (r N conditions : ℕ) → Type 0
  Interpolates r N conditions =
      (X Y v D : ℕ) (xs ys : ℕ → K) → D < X → conditions < monomials Y v D → (c : Table K) × Fitted ring.ops X Y v D r N xs ys c

  -- The walk meets every polynomial on a curve of weighted degree below m.
  abbrev pub WalkMeets : (X Y m : ℕ) → Type 0
  WalkMeets X Y m =
      (c : Table K) (f : List K) → DegreeBelow ring.ops X Y (length f - 1) m c → Lies ring.ops X Y c f → Met ring.ops X Y f c

-- All of it, with the numbers for which it holds.
pub record Recovery {K : Type 0} (𝓕 : Field K) : Type 0 where
  pub vanishing : (r t : ℕ) → Vanishing 𝓕 r t (r * t)
  pub few : (Y : ℕ) → Few 𝓕 Y Y
  pub unique : (k : ℕ) → Unique 𝓕 k k
  pub step : (X D : ℕ) → D < X → StepKeeps 𝓕 X D
  pub ends : (r N : ℕ) → RunEnds 𝓕 r N (N * r * (r + 1) / 2)
  pub exists : (r N : ℕ) → Interpolates 𝓕 r N (N * r * (r + 1) / 2)
  pub walk : (X Y : ℕ) → WalkMeets 𝓕 X Y X
