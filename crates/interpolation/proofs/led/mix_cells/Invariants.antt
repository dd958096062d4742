use Rattle.interpolation.specs.Region.{Changed, mixed_cell}
use Rattle.interpolation.proofs.led.mix_cells.Given as goal

abbrev pub invariant-loop-j : goal.invariant-loop-j
invariant-loop-j g l =
    Changed l.bound.weight l.bound.degree l.j (mixed_cell (g.F.Field.means l.field) l.d l.initial.cells l.e l.pivot) l.initial.cells l.cells
