use Rattle.std.proofs.Common.{◌≡◌}
use Rattle.algebra.specs.Field.{codes}
use Rattle.algebra.specs.Curve.{weight}
use Rattle.interpolation.specs.Weighed.{Weighed}
use Rattle.interpolation.proofs.weights.powers.Given as goal

abbrev pub invariant-loop-i : goal.invariant-loop-i
invariant-loop-i g l = Weighed (g.F.Field.means l.field) l.a 0 l.i l.row × (l.power ≡ weight (codes (g.F.Field.means l.field)) l.a 0 l.i)
