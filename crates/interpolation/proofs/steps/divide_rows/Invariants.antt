use Rattle.interpolation.specs.Steps.{wide_at, lowered_rows, RowsSet}
use Rattle.interpolation.proofs.steps.divide_rows.Given as goal

abbrev pub invariant-loop-j : goal.invariant-loop-j
invariant-loop-j l = RowsSet (wide_at l.region) 0 l.j (lowered_rows l.region l.m l.initial.curve.cells) l.initial.curve.cells l.curve.cells
