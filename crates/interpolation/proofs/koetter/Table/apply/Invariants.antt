use Rattle.std.proofs.Common.{◌≡◌, ℕ, ◌<◌, ◌≤◌, ◌≢◌, length}
use Rattle.algebra.specs.CodeRecovery.{at}
use Rattle.interpolation.specs.Size.{rows}
use Rattle.interpolation.specs.Stepped.{led, Taken}
use Rattle.interpolation.proofs.koetter.Table.apply.Given as goal

abbrev pub invariant-loop-j : goal.invariant-loop-j
invariant-loop-j g l = record {
  taken : (k : ℕ) → k < l.j → k ≢ l.p → Taken (g.F.Field.means l.field) l.bound k (at l.discrepancies l.p) (at l.discrepancies k) l.pivot.curve.cells (led l.initial.self.curves k) (led l.self.curves k);
  later : (k : ℕ) → l.j ≤ k → led l.self.curves k ≡ led l.initial.self.curves k;
  pivot : led l.self.curves l.p ≡ l.pivot;
  bound : l.self.bound ≡ l.bound;
  size : length l.self.curves ≡ rows;
}
