use Rattle.std.proofs.Common.{◌≡◌}
use Rattle.algebra.specs.Field.{codes}
use Rattle.algebra.specs.Curve.{dot}
use Rattle.algebra.specs.CodeRecovery.{at}
use Rattle.interpolation.specs.Region.{row_value}
use Rattle.interpolation.proofs.led.value_cells.Given as goal

abbrev pub invariant-loop-j : goal.invariant-loop-j
invariant-loop-j g l =
    l.sum ≡ dot (codes (g.F.Field.means l.field)) l.j (at l.wy) (row_value (g.F.Field.means l.field) l.bound.weight l.bound.degree l.wx l.cells)
