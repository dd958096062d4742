use Rattle.std.proofs.Common.{◌<◌, ◌≢◌, length, ap, ◌∙◌, arith, get_or-set_other, get_or-set_same, below_more}
use Rattle.interpolation.proofs.Rising.{power_none, power_more}
use Rattle.interpolation.proofs.weights.powers.Goals as goal

pub loop-i-init : goal.loop-i-init
loop-i-init g c = ((λ i h. absurd (omega arith)), power_none (g.F.Field.means c.args.field.now) c.args.a)

pub loop-i-preserved : goal.loop-i-preserved
loop-i-preserved g c =
    let F = g.F.Field.means c.args.field.now in
    let i = c.loop-i.i in
    let lt : i < length c.loop-i.row = omega arith in (
      below_more _ _
          (λ k h. let ne : k ≢ i = omega arith in rw get_or-set_other (c.loop-i.invariant.0 k h))
          (rw get_or-set_same c.loop-i.invariant.1),
      c.mul-power.ensures ∙ ap (F.product c.args.a) c.loop-i.invariant.1 ∙ power_more F c.args.a i,
    )
