use Rattle.std.proofs.Common.{◌≡◌, map, take}
use Rattle.sheet.specs.Standing.{stands}
use Rattle.code.specs.Messages.{span}
use Rattle.interpolation.specs.Pairs.{points_of, values_of}
use Rattle.reed_solomon.specs.Gathered.{pairs_of, fed}
use Rattle.reed_solomon.proofs.gathering.offer_sheet.Given as goal

-- the places so far were offered
abbrev pub invariant-loop-i : goal.invariant-loop-i
invariant-loop-i g l =
    ((points_of l.fitting.pairs, values_of l.fitting.pairs) ≡ fed (g.F.Field.means l.initial.fitting.field.now) l.initial.fitting.plan.limit (points_of l.initial.fitting.pairs, values_of l.initial.fitting.pairs) (pairs_of (span 0 l.i) (map stands (take l.i l.sheet))))
    × (l.fitting.plan ≡ l.initial.fitting.plan)
    × (l.fitting.field.now ≡ l.initial.fitting.field.now)
