-- The walk, which finds the polynomials on a curve coefficient by coefficient:
-- divide the curve by the powers of x that divide it, take a root g of its value at x = 0, put x y + g for y, and go on.
use Rattle.std.specs.Prelude.{◌≡◌, ℕ, zero, suc, ◌+◌, ◌<◌, List, [], ◌∷◌}
use Rattle.algebra.specs.Ring.{Ops}
use Rattle.algebra.specs.Series.{poly}
use Rattle.algebra.specs.Curve.{Table, row}

module _ {K : Type 0} (O : Ops K) where
  -- No term has a power of x below m, so that x^m divides the curve.
  abbrev pub Clear : (Y m : ℕ) → Table K → Type 0
  Clear Y m c = (i : ℕ) → i < m → (j : ℕ) → j < Y → c i j ≡ O.zero

  -- The curve divided by x^m.
  abbrev pub shifted : (X m : ℕ) → Table K → Table K
  shifted X m c i j = row O X c j (m + i)

  -- The value at x = 0 and y.
  abbrev pub bottom : ℕ → Table K → K → K
  bottom Y c y = poly O Y (λ j. c 0 j) y

  -- The product of x y and old, with the row k of c at the power 0 of y.
  abbrev pub raised : Table K → Table K → ℕ → Table K
  raised old c k i zero = c i k
  raised old c k zero (suc j) = O.zero
  raised old c k (suc i) (suc j) = old i j

  -- (x y + g) old + row k of c: one step of Horner's rule at x y + g.
  abbrev pub stretched : K → Table K → Table K → ℕ → Table K
  stretched g old c k i j = O.add (O.mul g (old i j)) (raised old c k i j)

  -- What x y + g put for y gives in the n rows of c from k on.
  abbrev pub moved : K → Table K → (n k : ℕ) → Table K
  moved g c zero k = λ i j. O.zero
  moved g c (suc n) k = stretched g (moved g c n (suc k)) c k

  -- The polynomial f is met: wherever its turn comes, its coefficient is a root of the curve at x = 0,
  -- whatever power of x that divides the curve has been taken out of it.
  abbrev pub Met : (X Y : ℕ) → List K → Table K → Type 0
  Met X Y [] c = Unit {0}
  Met X Y (g ∷ f) c = (m : ℕ) → Clear Y m c →
      (bottom Y (shifted X m c) g ≡ O.zero) × Met X Y f (moved g (shifted X m c) Y 0)
