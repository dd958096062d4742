-- The steps of the walk on the cells of a curve.
use Rattle.std.specs.Prelude.{◌≡◌, ℕ, zero, suc, ◌+◌, ◌-◌, ◌*◌, ◌<◌, ◌≤◌, ◌≢◌, List, length, nat_le, nat_lt, slice_index, if◌then◌else◌}
use Rattle.std.proofs.Common.{arith}
use Rattle.algebra.specs.Field.{Meaning, codes}
use Rattle.algebra.specs.Curve.{Table, DegreeBelow}
use Rattle.algebra.specs.Interpolation.{Same}
use Rattle.algebra.specs.Walk.{moved}
use Rattle.algebra.specs.CodeRecovery.{table}
use Rattle.interpolation.specs.Size.{columns, rows}
use Rattle.interpolation.specs.declared.region.Region.{Region}
use Rattle.interpolation.specs.Region.{cell}

-- how many coefficients of row j are in use
abbrev pub wide_at : Region → ℕ → ℕ
wide_at r j = r.width - r.weight * j

-- of the row above it
abbrev pub above_at : Region → ℕ → ℕ
above_at r j = wide_at r (j + 1)

pub lighter_heavy : (r : Region) → r.weight - 1 ≤ columns
lighter_heavy r = let h = r.heavy in omega arith

-- the region with the weight of y one less
abbrev pub lighter : Region → Region
lighter r = record { width = r.width; weight = r.weight - 1; height = r.height; wide = r.wide; heavy = lighter_heavy r; high = r.high }

-- what stays of the region after a division by x^m: the same rows, with fewer powers of x
pub record Narrower (r : Region) (m : ℕ) (low : Region) : Type 0 where
  pub weight : low.weight ≡ r.weight
  pub height : low.height ≡ r.height
  pub some : 1 ≤ low.width
  pub most : low.width ≤ r.width
  pub enough : r.width ≤ m + low.width

-- outside the region the curve is zero
unfoldable pub Light : Meaning → Region → List ℕ → Type 0
Light F r c = DegreeBelow (codes F) r.width r.height r.weight r.width (table F columns c)

-- the coefficient of x^i y^j of l divided by x^m, where X powers of x are in use
abbrev pub lowered_at : (X m : ℕ) → List ℕ → ℕ → ℕ → ℕ
lowered_at X m l j i = if nat_lt (m + i) X then cell l (m + i) j else 0

abbrev pub lowered_rows : Region → ℕ → List ℕ → ℕ → ℕ → ℕ
lowered_rows r m l j i = lowered_at (wide_at r j) m l j i

-- that of root times the row above, and of the row
abbrev pub mixed_at : Meaning → ℕ → List ℕ → ℕ → ℕ → ℕ
mixed_at F root l j i = F.sum (F.product root (cell l i (j + 1))) (cell l i j)

-- that of row j times x^j
abbrev pub raised_at : List ℕ → ℕ → ℕ → ℕ
raised_at l j i = if nat_le j i then cell l (i - j) j else 0

-- In the row j, the cells from lo to hi are those of f, and all else is as it was.
pub record RowSet (lo hi j : ℕ) (f : ℕ → ℕ) (old new : List ℕ) : Type 0 where
  pub done : (i : ℕ) → lo ≤ i → i < hi → cell new i j ≡ f i
  pub before : (i : ℕ) → i < lo → cell new i j ≡ cell old i j
  pub after : (i : ℕ) → hi ≤ i → i < columns → cell new i j ≡ cell old i j
  pub rest : (i b : ℕ) → i < columns → b ≢ j → cell new i b ≡ cell old i b
  pub size : length new ≡ length old

-- In each row j from lo to hi, the first X j cells are those of f, and all else is as it was.
pub record RowsSet (X : ℕ → ℕ) (lo hi : ℕ) (f : ℕ → ℕ → ℕ) (old new : List ℕ) : Type 0 where
  pub done : (i j : ℕ) → i < X j → lo ≤ j → j < hi → cell new i j ≡ f j i
  pub beside : (i j : ℕ) → i < columns → X j ≤ i → cell new i j ≡ cell old i j
  pub before : (i j : ℕ) → i < columns → j < lo → cell new i j ≡ cell old i j
  pub after : (i j : ℕ) → i < columns → hi ≤ j → cell new i j ≡ cell old i j
  pub size : length new ≡ length old

-- y + g put for y in the n rows of c from k on
abbrev pub translated : Meaning → ℕ → Table ℕ → (n k : ℕ) → Table ℕ
translated F g c zero k i j = 0
translated F g c (suc n) k i zero = F.sum (F.product g (translated F g c n (suc k) i 0)) (c i k)
translated F g c (suc n) k i (suc j) = F.sum (F.product g (translated F g c n (suc k) i (suc j))) (translated F g c n (suc k) i j)

-- the curve new is old with y + g put for y
pub record Translated (F : Meaning) (r : Region) (g : ℕ) (old new : List ℕ) : Type 0 where
  pub same : Same r.width r.height (table F columns new) (translated F g (table F columns old) r.height 0)
  pub size : length new ≡ length old

-- with x y + g put for y
pub record Moved (F : Meaning) (r : Region) (g : ℕ) (old new : List ℕ) : Type 0 where
  pub same : Same r.width r.height (table F columns new) (moved (codes F) g (table F columns old) r.height 0)
  pub size : length new ≡ length old

-- divided by x^m, which divides it
pub record Divided (r : Region) (m : ℕ) (old new : List ℕ) : Type 0 where
  pub clear : (i : ℕ) → i < m → (j : ℕ) → j < r.height → cell old i j ≡ 0
  pub lowered : (i j : ℕ) → i < wide_at r j → j < r.height → cell new i j ≡ lowered_at (wide_at r j) m old j i
  pub beside : (i j : ℕ) → i < columns → wide_at r j ≤ i → cell new i j ≡ cell old i j
  pub size : length new ≡ length old

-- divided by a power of x, after which the region low is in use
pub record Lowered (r low : Region) (old new : List ℕ) : Type 0 where
  pub power : ℕ
  pub divided : Divided r power old new
  pub narrower : Narrower r power low

-- the coefficients at x = 0, those in use first
pub record FootOf (height used : ℕ) (l c : List ℕ) : Type 0 where
  pub size : length l ≡ rows
  pub short : used ≤ height
  pub each : (j : ℕ) → j < height → slice_index l j ≡ cell c 0 j
  pub rest : (j : ℕ) → used ≤ j → j < height → slice_index l j ≡ 0
