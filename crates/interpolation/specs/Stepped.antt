-- The table of curves, and how far it has come.
use Rattle.std.specs.Prelude.{◌≡◌, ℕ, suc, ◌+◌, ◌*◌, ◌<◌, ◌≤◌, ◌≢◌, ◌⊎◌, List, [], length, replicate, ◌==◌, slice_index_or, Option, None, IfSome, if◌then◌else◌}
use Rattle.algebra.specs.Field.{Meaning, codes}
use Rattle.algebra.specs.Curve.{Table, DegreeBelow, discrepancy}
use Rattle.algebra.specs.Interpolation.{Step, PairsDone, ColumnsDone, PlacesDone}
use Rattle.algebra.specs.CodeRecovery.{at, table}
use Rattle.interpolation.specs.declared.curve.Bound.{Bound}
use Rattle.interpolation.specs.declared.led.LedCurve.{LedCurve}
use Rattle.interpolation.specs.declared.pairs.Pair.{Pair}
use Rattle.interpolation.specs.Pairs.{points, values}
use Rattle.interpolation.specs.Size.{columns, rows, cells}
use Rattle.interpolation.specs.Weighed.{Weighed}
use Rattle.interpolation.specs.Region.{mixed_cell, lifted_cell, Changed}

abbrev pub blank : LedCurve
blank = record { curve = record { cells = [] }; lead = 0 }

-- The curve j of the table.
abbrev pub led : List LedCurve → ℕ → LedCurve
led cs j = slice_index_or cs j blank

-- The weighted degree of the lead of curve j.
abbrev pub lead_degree : Bound → List LedCurve → ℕ → ℕ
lead_degree bound cs j = (led cs j).lead + bound.weight * j

-- The order of the curves' leads.
abbrev pub key_of : Bound → List LedCurve → ℕ → ℕ
key_of bound cs j = rows * lead_degree bound cs j + j

-- Under the weights wx and wy of a derivative, r is that derivative of the curve, if the curve is of weighted degree D at most.
abbrev pub Derived : Meaning → (v D : ℕ) → (wx wy cells : List ℕ) → ℕ → Type 0
Derived F v D wx wy cells r =
    (a b u w : ℕ) → Weighed F a u (D + 1) wx → Weighed F b w rows wy → DegreeBelow (codes F) columns rows v (suc D) (table F columns cells)
    → r ≡ discrepancy (codes F) columns rows a b u w (table F columns cells)

-- The discrepancy of a live curve under the weights; zero for one that is not live.
pub record Valued (F : Meaning) (bound : Bound) (wx wy : List ℕ) (c : LedCurve) (j r : ℕ) : Type 0 where
  pub live : c.lead + bound.weight * j ≤ bound.degree → Derived F bound.weight (c.lead + bound.weight * j) wx wy c.curve.cells r
  pub dead : bound.degree < c.lead + bound.weight * j → r ≡ 0

-- The choice among the first n curves: the one of least lead whose discrepancy is not zero, if there is one.
pub record Chosen (bound : Bound) (cs : List LedCurve) (ds : List ℕ) (n : ℕ) (choice : Option ℕ) : Type 0 where
  pub low : IfSome choice (λ p. p < n)
  pub off : IfSome choice (λ p. at ds p ≢ 0)
  pub least : IfSome choice (λ p. (j : ℕ) → j < n → at ds j ≢ 0 → key_of bound cs p ≤ key_of bound cs j)
  pub none : choice ≡ None → (j : ℕ) → j < n → at ds j ≡ 0

-- What becomes of curve j with discrepancy e, by the pivot with discrepancy d.
pub record Taken (F : Meaning) (bound : Bound) (j d e : ℕ) (pivot : List ℕ) (c c' : LedCurve) : Type 0 where
  pub lead : c'.lead ≡ c.lead
  pub idle : e ≡ 0 → c' ≡ c
  pub busy : e ≢ 0 → Changed bound.weight (c.lead + bound.weight * j) rows (mixed_cell F d c.curve.cells e pivot) c.curve.cells c'.curve.cells

-- A multiple of the pivot p is taken off the other curves, and the pivot is multiplied by x - a.
pub record Applied (F : Meaning) (bound : Bound) (a p : ℕ) (ds : List ℕ) (cs cs' : List LedCurve) : Type 0 where
  pub others : (j : ℕ) → j < rows → j ≢ p → Taken F bound j (at ds p) (at ds j) (led cs p).curve.cells (led cs j) (led cs' j)
  pub lead : (led cs' p).lead ≡ suc (led cs p).lead
  pub lifted : lead_degree bound cs' p ≤ bound.degree → Changed bound.weight (lead_degree bound cs' p) rows (lifted_cell F a (led cs p).curve.cells) (led cs p).curve.cells (led cs' p).curve.cells

-- The table as curves over the field, and their leads.
unfoldable pub curves_of : Meaning → List LedCurve → ℕ → Table ℕ
curves_of F cs j = table F columns (led cs j).curve.cells

unfoldable pub lead_of : List LedCurve → ℕ → ℕ
lead_of cs j = (led cs j).lead

-- A live curve has no coefficient of a weighted degree above its lead's.
unfoldable pub Bounded : Meaning → Bound → List LedCurve → Type 0
Bounded F bound cs = (j : ℕ) → j < rows → lead_degree bound cs j ≤ bound.degree → (i k : ℕ) → i < columns → k < rows → lead_degree bound cs j < i + bound.weight * k → curves_of F cs j i k ≡ 0

-- A step at the condition (a, b, u, w): every live curve meets it already, or a pivot is chosen and applied.
abbrev pub Stepped : Meaning → Bound → (a b u w : ℕ) → List LedCurve → List LedCurve → Type 0
Stepped F bound a b u w cs cs' =
    ((cs' ≡ cs) × ((j : ℕ) → j < rows → lead_degree bound cs j ≤ bound.degree → discrepancy (codes F) columns rows a b u w (curves_of F cs j) ≡ 0))
    ⊎ ((p : ℕ) × Step (codes F) columns rows bound.weight bound.degree a b u w p (curves_of F cs) (lead_of cs) (curves_of F cs') (lead_of cs'))

-- The same, at each condition whose weights are wx and wy.
abbrev pub StepsAt : Meaning → Bound → ℕ → (wx wy : List ℕ) → List LedCurve → List LedCurve → Type 0
StepsAt F bound a wx wy cs cs' =
    (b u w : ℕ) → Weighed F a u (bound.degree + 1) wx → Weighed F b w rows wy → Bounded F bound cs → Stepped F bound a b u w cs cs'

-- The pair is the one at place t.
abbrev pub IsAt : List Pair → ℕ → Pair → Type 0
IsAt ps t pair = (at (points ps) t ≡ pair.point) × (at (values ps) t ≡ pair.value)

-- How far the run over the pairs has come: t pairs are met,
module _ (F : Meaning) (bound : Bound) (r : ℕ) (ps : List Pair) where
  abbrev pub PairsMet : ℕ → List LedCurve → Type 0
  PairsMet t cs = PairsDone (codes F) columns rows bound.weight bound.degree r (at (points ps)) (at (values ps)) t (curves_of F cs) (lead_of cs)

  -- and of the next the conditions of order below w in y,
  abbrev pub ColumnsMet : ℕ → ℕ → List LedCurve → Type 0
  ColumnsMet t w cs = ColumnsDone (codes F) columns rows bound.weight bound.degree r (at (points ps)) (at (values ps)) t w (curves_of F cs) (lead_of cs)

  -- and of order w those of order below u in x.
  abbrev pub PlacesMet : ℕ → ℕ → ℕ → List LedCurve → Type 0
  PlacesMet t w u cs = PlacesDone (codes F) columns rows bound.weight bound.degree r (at (points ps)) (at (values ps)) t w u (curves_of F cs) (lead_of cs)

-- From the first table to the second the pair is met as the next one, wherever it stands among pairs,
module _ (F : Meaning) (bound : Bound) (r : ℕ) (pair : Pair) where
  abbrev pub MeetsPair : List LedCurve → List LedCurve → Type 0
  MeetsPair cs cs' = (ps : List Pair) (t : ℕ) → IsAt ps t pair → PairsMet F bound r ps t cs → PairsMet F bound r ps (t + 1) cs'

  -- or of its conditions those of order w in y.
  abbrev pub MeetsColumn : ℕ → List LedCurve → List LedCurve → Type 0
  MeetsColumn w cs cs' = (ps : List Pair) (t : ℕ) → IsAt ps t pair → ColumnsMet F bound r ps t w cs → ColumnsMet F bound r ps t (w + 1) cs'

-- The curves are the powers of y.
pub record Fresh (cs : List LedCurve) : Type 0 where
  pub lead : (j : ℕ) → j < rows → (led cs j).lead ≡ 0
  pub power : (j : ℕ) → j < rows → (t : ℕ) → t < cells → at (led cs j).curve.cells t ≡ (if t == columns * j then 1 else 0)

unfoldable pub zeros : List ℕ
zeros = replicate cells 0

-- The first n curves are powers of y, the others zero.
pub record Start (n : ℕ) (cs : List LedCurve) : Type 0 where
  pub size : length cs ≡ rows
  pub lead : (j : ℕ) → j < rows → (led cs j).lead ≡ 0
  pub done : (j : ℕ) → j < n → (t : ℕ) → t < cells → at (led cs j).curve.cells t ≡ (if t == columns * j then 1 else 0)
  pub todo : (j : ℕ) → n ≤ j → j < rows → (led cs j).curve.cells ≡ zeros
