-- The theorems of list recovery for codes, the numbers below the size of a field that programs hold.
-- They hold of every field of codes that keeps the laws. The operations on codes take the place of those on elements.
use Rattle.std.specs.Prelude.{◌≡◌, ℕ, zero, suc, ◌+◌, ◌-◌, ◌*◌, ◌/◌, ◌<◌, ◌≤◌, List, length, ◌==◌, ◌≢◌, slice_index, if◌then◌else◌}
use Rattle.algebra.specs.Lists.{Each, Distinct}
use Rattle.algebra.specs.Field.{Meaning, Laws, read, codes}
use Rattle.algebra.specs.Polynomial.{value}
use Rattle.algebra.specs.Curve.{Table, Through, DegreeBelow, Nonzero, Lies}
use Rattle.algebra.specs.Interpolation.{monomials, PairsDone, PlacesDone, Step, Fitted, Ended}
use Rattle.algebra.specs.Walk.{Met}

-- The numbers are codes.
abbrev pub Coded : Meaning → List ℕ → Type 0
Coded F l = Each (λ n. n < F.size) l

-- The coefficients are codes.
abbrev pub CodedTable : Meaning → Table ℕ → Type 0
CodedTable F c = (i j : ℕ) → c i j < F.size

-- A curve in a flat list, X coefficients for each power of y. What is not below the size is read as zero.
abbrev pub table : Meaning → ℕ → List ℕ → Table ℕ
table F X l i j = read F.size (slice_index l (i + X * j))

-- The entry t of a list.
abbrev pub at : List ℕ → ℕ → ℕ
at l t = slice_index l t

-- Pairs of codes, no pair twice.
pub record Pairs (F : Meaning) (xs ys : List ℕ) : Type 0 where
  pub same : length xs ≡ length ys
  pub low_x : (t : ℕ) → t < length xs → at xs t < F.size
  pub low_y : (t : ℕ) → t < length xs → at ys t < F.size
  pub apart : (s t : ℕ) → s < t → t < length xs → at xs s ≡ at xs t → at ys s ≢ at ys t

-- How many of the first n pairs the polynomial f passes through.
abbrev pub passed : Meaning → (f xs ys : List ℕ) → ℕ → ℕ
passed F f xs ys zero = 0
passed F f xs ys (suc n) = passed F f xs ys n + (if value F f (at xs n) == at ys n then 1 else 0)

-- The score of f: how many of the pairs it passes through.
unfoldable pub score : Meaning → (xs ys f : List ℕ) → ℕ
score F xs ys f = passed F f xs ys (length xs)

module _ (F : Meaning) where
  -- A polynomial of v + 1 coefficients through t pairs, at which a curve of weighted degree below m has multiplicity r, lies on it.
  abbrev pub CodeVanishing : (r t m : ℕ) → Type 0
  CodeVanishing r t m =
      (X Y v : ℕ) (c : Table ℕ) (f xs ys : List ℕ)
      → length f ≡ suc v → DegreeBelow (codes F) X Y v m c → Pairs F xs ys → Through (codes F) X Y r (length xs) (at xs) (at ys) c
      → t ≤ score F xs ys f → Lies (codes F) X Y c f

  -- On a curve that is not zero, with Y rows, there lie fewer than s polynomials of k coefficients.
  abbrev pub CodeFew : (Y s : ℕ) → Type 0
  CodeFew Y s =
      (X k : ℕ) (c : Table ℕ) (fs : List (List ℕ)) → CodedTable F c → Nonzero (codes F) X Y c
      → Each (λ f. Coded F f × (length f ≡ k)) fs → Distinct fs → Each (Lies (codes F) X Y c) fs → length fs < s

  -- Two polynomials of k coefficients that agree at n different points are equal.
  abbrev pub CodeUnique : (k n : ℕ) → Type 0
  CodeUnique k n =
      (f g points : List ℕ) → Coded F f → Coded F g → Coded F points → length f ≡ k → length g ≡ k → Distinct points → n ≤ length points
      → Each (λ a. value F f a ≡ value F g a) points → f ≡ g

  -- A step of the interpolation at the next condition keeps the invariant.
  abbrev pub CodeStepKeeps : (X D : ℕ) → Type 0
  CodeStepKeeps X D =
      (Y v r t w u p : ℕ) (xs ys : ℕ → ℕ) (curves : ℕ → Table ℕ) (lead : ℕ → ℕ) (curves' : ℕ → Table ℕ) (lead' : ℕ → ℕ)
      → ((j : ℕ) → CodedTable F (curves j)) → ((j : ℕ) → CodedTable F (curves' j))
      → Step (codes F) X Y v D (xs t) (ys t) u w p curves lead curves' lead'
      → PlacesDone (codes F) X Y v D r xs ys t w u curves lead → PlacesDone (codes F) X Y v D r xs ys t w (suc u) curves' lead'

  -- When N pairs are done, and the monomials of weighted degree D at most exceed the conditions, some curve is live, and a live curve is fitted.
  abbrev pub CodeRunEnds : (r N conditions : ℕ) → Type 0
  CodeRunEnds r N conditions =
      (X Y v D : ℕ) (xs ys : ℕ → ℕ) (curves : ℕ → Table ℕ) (lead : ℕ → ℕ) → ((j : ℕ) → CodedTable F (curves j)) → D < X
      → PairsDone (codes F) X Y v D r xs ys N curves lead → conditions < monomials Y v D
      → Ended (codes F) X Y v D r N xs ys curves lead

  -- So a curve that is not zero, of weighted degree D at most and multiplicity r at N pairs, exists.
  abbrev pub CodeInterpolates : (r N conditions : ℕ) → Type 0
  CodeInterpolates r N conditions =
      (X Y v D : ℕ) (xs ys : ℕ → ℕ) → D < X → conditions < monomials Y v D
      → (c : Table ℕ) × CodedTable F c × Fitted (codes F) X Y v D r N xs ys c

  -- The walk meets every polynomial on a curve of weighted degree below m.
  abbrev pub CodeWalkMeets : (X Y m : ℕ) → Type 0
  CodeWalkMeets X Y m =
      (c : Table ℕ) (f : List ℕ) → DegreeBelow (codes F) X Y (length f - 1) m c → Lies (codes F) X Y c f → Met (codes F) X Y f c

  -- Together: where the counting rule holds at the multiplicity r and the agreement t,
  -- fewer than s polynomials of v + 1 coefficients pass through t of the pairs.
  abbrev pub CodeListBound : (r t Y s : ℕ) → Type 0
  CodeListBound r t Y s =
      (v : ℕ) (xs ys : List ℕ) (fs : List (List ℕ))
      → Pairs F xs ys → 1 ≤ r * t → length xs * r * (r + 1) / 2 < monomials Y v (r * t - 1)
      → Each (λ f. Coded F f × (length f ≡ suc v)) fs → Distinct fs → Each (λ f. t ≤ score F xs ys f) fs → length fs < s

-- All of it, for every field that keeps the laws, with the numbers for which it holds.
pub record CodeRecovery : Type 0 where
  pub vanishing : (F : Meaning) → Laws F → (r t : ℕ) → CodeVanishing F r t (r * t)
  pub few : (F : Meaning) → Laws F → (Y : ℕ) → CodeFew F Y Y
  pub unique : (F : Meaning) → Laws F → (k : ℕ) → CodeUnique F k k
  pub step : (F : Meaning) → Laws F → (X D : ℕ) → D < X → CodeStepKeeps F X D
  pub ends : (F : Meaning) → Laws F → (r N : ℕ) → CodeRunEnds F r N (N * r * (r + 1) / 2)
  pub exists : (F : Meaning) → Laws F → (r N : ℕ) → CodeInterpolates F r N (N * r * (r + 1) / 2)
  pub walk : (F : Meaning) → Laws F → (X Y : ℕ) → CodeWalkMeets F X Y X
  pub short : (F : Meaning) → Laws F → (r t Y : ℕ) → CodeListBound F r t Y Y
