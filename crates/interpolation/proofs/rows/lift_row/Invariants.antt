use Rattle.std.proofs.Common.{◌≡◌, ℕ, ◌<◌, ◌≤◌}
use Rattle.algebra.specs.Field.{codes}
use Rattle.algebra.specs.Interpolation.{up}
use Rattle.algebra.specs.CodeRecovery.{at}
use Rattle.interpolation.specs.Region.{lifted}
use Rattle.interpolation.proofs.rows.lift_row.Given as goal

abbrev pub invariant-loop-i : goal.invariant-loop-i
invariant-loop-i g l =
    ((k : ℕ) → k < l.i → at l.row k ≡ lifted (g.F.Field.means l.field) l.a (at l.initial.row) k)
    × ((k : ℕ) → l.i ≤ k → at l.row k ≡ at l.initial.row k)
    × (l.before ≡ up (codes (g.F.Field.means l.field)) (at l.initial.row) l.i)
