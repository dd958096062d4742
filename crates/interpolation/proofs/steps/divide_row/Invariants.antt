use Rattle.std.proofs.Common.{◌≡◌, length}
use Rattle.interpolation.specs.Size.{cells}
use Rattle.interpolation.specs.Steps.{lowered_at, RowSet}
use Rattle.interpolation.proofs.steps.divide_row.Given as goal

abbrev pub invariant-loop-i : goal.invariant-loop-i
invariant-loop-i l =
    RowSet 0 l.i l.j (lowered_at l.width l.m l.initial.curve.cells l.j) l.initial.curve.cells l.curve.cells
    × (length l.curve.cells ≡ cells)
