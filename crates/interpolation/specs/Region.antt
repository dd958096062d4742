-- The cells of a curve that are worked on: those of weighted degree D at most. The others of a live curve are zero.
use Rattle.std.specs.Prelude.{◌≡◌, ℕ, ◌+◌, ◌-◌, ◌*◌, ◌<◌, ◌≤◌, List}
use Rattle.algebra.specs.Field.{Meaning, codes}
use Rattle.algebra.specs.Curve.{dot}
use Rattle.algebra.specs.Interpolation.{up}
use Rattle.algebra.specs.CodeRecovery.{at}
use Rattle.interpolation.specs.Size.{columns, rows}

-- How many cells of row j have weighted degree D at most.
abbrev pub width : (v D j : ℕ) → ℕ
width v D j = D + 1 - v * j

abbrev pub cell : List ℕ → ℕ → ℕ → ℕ
cell l i j = at l (i + columns * j)

-- d c - e g, for single coefficients.
abbrev pub mixed : (F : Meaning) (d c e g : ℕ) → ℕ
mixed F d c e g = F.difference (F.product d c) (F.product e g)

-- The coefficient i of (x - a) f.
abbrev pub lifted : (F : Meaning) (a : ℕ) (f : ℕ → ℕ) (i : ℕ) → ℕ
lifted F a f i = F.difference (up (codes F) f i) (F.product a (f i))

-- The same for the cells of two curves, and of one.
unfoldable pub mixed_cell : (F : Meaning) (d : ℕ) (l : List ℕ) (e : ℕ) (g : List ℕ) (i j : ℕ) → ℕ
mixed_cell F d l e g i j = mixed F d (cell l i j) e (cell g i j)

unfoldable pub lifted_cell : (F : Meaning) (a : ℕ) (l : List ℕ) (i j : ℕ) → ℕ
lifted_cell F a l i j = lifted F a (λ k. cell l k j) i

-- Row j under the weights of x, the cells of weighted degree D at most.
unfoldable pub row_value : (F : Meaning) (v D : ℕ) (wx l : List ℕ) (j : ℕ) → ℕ
row_value F v D wx l j = dot (codes F) (width v D j) (at wx) (λ i. cell l i j)

-- In the first n rows the cells of weighted degree D at most are the new ones; all others are as they were.
pub record Changed (v D n : ℕ) (new : ℕ → ℕ → ℕ) (l l' : List ℕ) : Type 0 where
  pub inside : (i j : ℕ) → j < n → i < width v D j → cell l' i j ≡ new i j
  pub outside : (i j : ℕ) → i < columns → j < rows → (j < n → width v D j ≤ i) → cell l' i j ≡ cell l i j
