use Rattle.std.proofs.Common.{◌≡◌, length}
use Rattle.interpolation.specs.Size.{cells}
use Rattle.interpolation.specs.Steps.{raised_at, RowSet}
use Rattle.interpolation.proofs.steps.raise_row.Given as goal

abbrev pub invariant-loop-i : goal.invariant-loop-i
invariant-loop-i l =
    RowSet l.i l.width l.j (raised_at l.initial.curve.cells l.j) l.initial.curve.cells l.curve.cells
    × (length l.curve.cells ≡ cells)
