use Rattle.std.proofs.Common.{◌≡◌, ℕ, ◌<◌, ◌≤◌, false}
use Rattle.counting.specs.Counting.{limits, suits}
use Rattle.counting.proofs.counting.Given as goal

abbrev pub invariant-loop-r : goal.invariant-loop-r
invariant-loop-r l = (i : ℕ) → 1 ≤ i → i < l.r → suits limits l.v l.t l.load i ≡ false
