use Rattle.std.proofs.Common.{◌≡◌, ℕ, ◌<◌, ◌≤◌}
use Rattle.algebra.specs.CodeRecovery.{at}
use Rattle.interpolation.specs.Region.{mixed}
use Rattle.interpolation.proofs.rows.mix_row.Given as goal

abbrev pub invariant-loop-i : goal.invariant-loop-i
invariant-loop-i g l =
    ((k : ℕ) → k < l.i → at l.row k ≡ mixed (g.F.Field.means l.field) l.d (at l.initial.row k) l.e (at l.pivot k))
    × ((k : ℕ) → l.i ≤ k → at l.row k ≡ at l.initial.row k)
