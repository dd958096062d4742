use Rattle.interpolation.specs.Steps.{wide_at, raised_at, RowsSet}
use Rattle.interpolation.proofs.steps.raise_rows.Given as goal

abbrev pub invariant-loop-j : goal.invariant-loop-j
invariant-loop-j l = RowsSet (wide_at l.region) 0 l.j (raised_at l.initial.curve.cells) l.initial.curve.cells l.curve.cells
