use Rattle.std.proofs.Common.{cond, [], ◌∷◌, refl, ◌∙◌, ap₂}
use Rattle.sheet.specs.Standing.{stands}
use Rattle.interpolation.specs.Pairs.{points_of, values_of}
use Rattle.reed_solomon.specs.Gathered.{letters, at_point, fed}
use Rattle.reed_solomon.proofs.Feeding.{fed_letter}
use Rattle.reed_solomon.proofs.gathering.offer_place.Goals as goal

pub loop-l-init : goal.loop-l-init
unfolding letters
loop-l-init g c = (refl, refl, refl)

pub loop-l-preserved : goal.loop-l-preserved
loop-l-preserved g c = (
  fed_letter (g.F.Field.means c.args.fitting.now.field.now) c.args.fitting.now.plan.limit c.args.point (stands c.args.marks) c.loop-l.l (stands c.args.marks c.loop-l.l) _ _ _
      c.loop-l.invariant.0 refl
      (c.offer.ensures.held
      ∙ ap₂ (λ plan fld. fed (g.F.Field.means fld) plan.limit (points_of c.loop-l.fitting.pairs, values_of c.loop-l.fitting.pairs) (at_point c.args.point (cond (stands c.args.marks c.loop-l.l) (c.loop-l.l ∷ []) []))) c.loop-l.invariant.1 c.loop-l.invariant.2),
  c.offer.ensures.plan ∙ c.loop-l.invariant.1,
  c.offer.ensures.field ∙ c.loop-l.invariant.2,
)
