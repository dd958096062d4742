use Rattle.std.proofs.Common.{◌≡◌, length}
use Rattle.interpolation.specs.Size.{cells}
use Rattle.interpolation.specs.Steps.{mixed_at, RowSet}
use Rattle.interpolation.proofs.steps.mix_row.Given as goal

abbrev pub invariant-loop-i : goal.invariant-loop-i
invariant-loop-i g l =
    RowSet 0 l.i l.j (mixed_at (g.F.Field.means l.field) l.root l.initial.curve.cells l.j) l.initial.curve.cells l.curve.cells
    × (length l.curve.cells ≡ cells)
