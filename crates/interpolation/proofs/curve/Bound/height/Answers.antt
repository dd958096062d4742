use Rattle.std.proofs.Common.{ℕ, ◌+◌, ◌*◌, ◌/◌, ◌<◌, ◌≤◌, mul-le-mul_left, arith}
use native.Mathlib.Nat.{lt-mul-div-succ}
use Rattle.interpolation.proofs.curve.Bound.height.Goals as goal

past : (v D j : ℕ) → 0 < v → D / v + 1 ≤ j → D < v * j
past v D j pos h = let a = lt-mul-div-succ D pos in let b = mul-le-mul_left v h in omega arith

pub returns-else-self-eq0-clause-rest : goal.returns-else-self-eq0-clause-rest
returns-else-self-eq0-clause-rest c = λ j h low. past c.args.self.weight c.args.self.degree j (omega arith) (omega arith)
