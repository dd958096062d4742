use Rattle.std.proofs.Common.{◌≡◌, ℕ, ◌-◌, ◌≤◌, true}
use Rattle.counting.specs.Counting.{limits, in_reach}
use Rattle.reed_solomon.proofs.evaluation.least_of.Given as goal

abbrev pub invariant-loop-t : goal.invariant-loop-t
invariant-loop-t l = (u : ℕ) → l.t ≤ u → u ≤ l.n → in_reach limits (l.k - 1) u l.n ≡ true
