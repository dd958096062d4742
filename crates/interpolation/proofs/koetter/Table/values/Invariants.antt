use Rattle.std.proofs.Common.{◌≡◌, ℕ, ◌<◌, length}
use Rattle.algebra.specs.CodeRecovery.{at}
use Rattle.interpolation.specs.Size.{rows}
use Rattle.interpolation.specs.Stepped.{led, Valued}
use Rattle.interpolation.proofs.koetter.Table.values.Given as goal

abbrev pub invariant-loop-j : goal.invariant-loop-j
invariant-loop-j g l =
    ((k : ℕ) → k < l.j → Valued (g.F.Field.means l.field) l.self.bound l.wx l.wy (led l.self.curves k) k (at l.discrepancies k))
    × (length l.discrepancies ≡ rows)
