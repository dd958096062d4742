use Rattle.std.proofs.Common.{◌≡◌}
use Rattle.interpolation.specs.Stepped.{PairsMet}
use Rattle.interpolation.proofs.koetter.Table.meet.Given as goal

abbrev pub invariant-loop-pair : goal.invariant-loop-pair
invariant-loop-pair g l =
    PairsMet (g.F.Field.means l.field) l.initial.self.bound l.r l.pairs l.pair-index l.self.curves
    × (l.self.bound ≡ l.initial.self.bound)
