use Rattle.std.proofs.Common.{◌≡◌}
use Rattle.algebra.specs.Field.{codes}
use Rattle.algebra.specs.Curve.{dot}
use Rattle.algebra.specs.CodeRecovery.{at}
use Rattle.interpolation.proofs.rows.dot.Given as goal

abbrev pub invariant-loop-i : goal.invariant-loop-i
invariant-loop-i g l = l.sum ≡ dot (codes (g.F.Field.means l.field)) l.i (at l.weights) (at l.row)
