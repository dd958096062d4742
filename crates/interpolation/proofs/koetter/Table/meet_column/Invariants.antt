use Rattle.std.proofs.Common.{◌≡◌, ℕ, ◌+◌, List, length}
use Rattle.interpolation.specs.declared.pairs.Pair.{Pair}
use Rattle.interpolation.specs.Size.{columns}
use Rattle.interpolation.specs.Weighed.{Weighed}
use Rattle.interpolation.specs.Stepped.{IsAt, ColumnsMet, PlacesMet}
use Rattle.interpolation.proofs.koetter.Table.meet_column.Given as goal

abbrev pub invariant-loop-u : goal.invariant-loop-u
invariant-loop-u g l = record {
  met :
      (ps : List Pair) (t : ℕ) → IsAt ps t l.pair → ColumnsMet (g.F.Field.means l.field) l.initial.self.bound l.r ps t l.w l.initial.self.curves
      → PlacesMet (g.F.Field.means l.field) l.initial.self.bound l.r ps t l.w l.u l.self.curves;
  weighed : Weighed (g.F.Field.means l.field) l.pair.point l.u l.n l.wx;
  bound : l.self.bound ≡ l.initial.self.bound;
  wide : l.n ≡ l.initial.self.bound.degree + 1;
  size : length l.wx ≡ columns;
}
