use Rattle.interpolation.specs.Steps.{above_at, mixed_at, RowsSet}
use Rattle.interpolation.proofs.steps.mix_rows.Given as goal

abbrev pub invariant-loop-j : goal.invariant-loop-j
invariant-loop-j g l = RowsSet (above_at l.region) l.k l.j (mixed_at (g.F.Field.means l.field) l.root l.initial.curve.cells) l.initial.curve.cells l.curve.cells
