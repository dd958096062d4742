use Rattle.std.proofs.Common.{◌≡◌, ℕ, ◌<◌, get_or}
use Rattle.algebra.specs.Polynomial.{value}
use Rattle.reed_solomon.proofs.evaluation.write_values.Given as goal

abbrev pub invariant-loop-i : goal.invariant-loop-i
invariant-loop-i g l = (k : ℕ) → k < l.i → get_or l.word k 0 ≡ value (g.F.Field.means l.field) l.message k
