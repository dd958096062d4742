use Rattle.std.proofs.Common.{◌≡◌, ℕ, List, length}
use Rattle.interpolation.specs.declared.pairs.Pair.{Pair}
use Rattle.interpolation.specs.Size.{rows}
use Rattle.interpolation.specs.Weighed.{Weighed}
use Rattle.interpolation.specs.Stepped.{IsAt, PairsMet, ColumnsMet}
use Rattle.interpolation.proofs.koetter.Table.meet_pair.Given as goal

abbrev pub invariant-loop-w : goal.invariant-loop-w
invariant-loop-w g l = record {
  met :
      (ps : List Pair) (t : ℕ) → IsAt ps t l.pair → PairsMet (g.F.Field.means l.field) l.initial.self.bound l.r ps t l.initial.self.curves
      → ColumnsMet (g.F.Field.means l.field) l.initial.self.bound l.r ps t l.w l.self.curves;
  weighed : Weighed (g.F.Field.means l.field) l.pair.value l.w rows l.wy;
  bound : l.self.bound ≡ l.initial.self.bound;
  size : length l.wy ≡ rows;
}
