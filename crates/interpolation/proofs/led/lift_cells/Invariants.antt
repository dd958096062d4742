use Rattle.interpolation.specs.Region.{Changed, lifted_cell}
use Rattle.interpolation.proofs.led.lift_cells.Given as goal

abbrev pub invariant-loop-j : goal.invariant-loop-j
invariant-loop-j g l =
    Changed l.bound.weight l.bound.degree l.j (lifted_cell (g.F.Field.means l.field) l.a l.initial.cells) l.initial.cells l.cells
