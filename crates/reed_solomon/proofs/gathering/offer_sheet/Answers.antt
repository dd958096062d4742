use Rattle.std.proofs.Common.{[], get_or, refl, ◌∙◌, ap₂}
use Rattle.sheet.specs.Standing.{stands}
use Rattle.code.specs.Messages.{span}
use Rattle.interpolation.specs.Pairs.{points_of, values_of}
use Rattle.reed_solomon.specs.Gathered.{letters, at_point, pairs_of, fed}
use Rattle.reed_solomon.proofs.Feeding.{fed_place}
use Rattle.reed_solomon.proofs.gathering.offer_sheet.Goals as goal

pub loop-i-init : goal.loop-i-init
unfolding pairs_of span
loop-i-init g c = (refl, refl, refl)

pub loop-i-preserved : goal.loop-i-preserved
loop-i-preserved g c = (
  fed_place (g.F.Field.means c.args.fitting.now.field.now) c.args.fitting.now.plan.limit c.args.sheet.now c.loop-i.i (record { words = [] }) _ _ _ c.loop-i-test.true c.loop-i.invariant.0
      (c.offer_place.ensures.held
      ∙ ap₂ (λ plan fld. fed (g.F.Field.means fld) plan.limit (points_of c.loop-i.fitting.pairs, values_of c.loop-i.fitting.pairs) (at_point c.loop-i.i (letters (stands (get_or c.args.sheet.now c.loop-i.i (record { words = [] }))) 256))) c.loop-i.invariant.1 c.loop-i.invariant.2),
  c.offer_place.ensures.plan ∙ c.loop-i.invariant.1,
  c.offer_place.ensures.field ∙ c.loop-i.invariant.2,
)
