use Rattle.std.proofs.Common.{◌≡◌, suc, ◌-◌, ◌*◌, ◌≤◌}
use Rattle.algebra.specs.Interpolation.{total}
use Rattle.counting.proofs.count_monomials.Given as goal

abbrev pub invariant-loop-j : goal.invariant-loop-j
invariant-loop-j l = (l.sum ≡ total l.j (λ j. suc l.d - l.v * j)) × (l.sum ≤ 64 * l.j)
