use Rattle.std.proofs.Common.{◌≡◌}
use Rattle.sheet.specs.Standing.{stands}
use Rattle.interpolation.specs.Pairs.{points_of, values_of}
use Rattle.reed_solomon.specs.Gathered.{letters, at_point, fed}
use Rattle.reed_solomon.proofs.gathering.offer_place.Given as goal

-- the letters so far were offered
abbrev pub invariant-loop-l : goal.invariant-loop-l
invariant-loop-l g l =
    ((points_of l.fitting.pairs, values_of l.fitting.pairs) ≡ fed (g.F.Field.means l.initial.fitting.field.now) l.initial.fitting.plan.limit (points_of l.initial.fitting.pairs, values_of l.initial.fitting.pairs) (at_point l.point (letters (stands l.marks) l.l)))
    × (l.fitting.plan ≡ l.initial.fitting.plan)
    × (l.fitting.field.now ≡ l.initial.fitting.field.now)
