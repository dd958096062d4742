use Rattle.std.proofs.Common.{◌≡◌, ℕ, ◌<◌, ◌≤◌}
use Rattle.algebra.specs.CodeRecovery.{at}
use Rattle.interpolation.specs.Weighed.{raised}
use Rattle.interpolation.proofs.weights.raise.Given as goal

abbrev pub invariant-loop-i : goal.invariant-loop-i
invariant-loop-i g l =
    ((k : ℕ) → k < l.i → at l.row k ≡ raised (g.F.Field.means l.field) l.a l.initial.row k)
    × ((k : ℕ) → l.i ≤ k → at l.row k ≡ at l.initial.row k)
    × (l.last ≡ raised (g.F.Field.means l.field) l.a l.initial.row l.i)
