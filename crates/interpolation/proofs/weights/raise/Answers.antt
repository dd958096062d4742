use Rattle.std.proofs.Common.{◌<◌, ◌≢◌, length, refl, ap, ◌∙◌, ap₂, arith, get_or-set_other, get_or-set_same, below_more}
use Rattle.interpolation.proofs.Rising.{raised_none, raised_more, raised_weighed}
use Rattle.interpolation.proofs.weights.raise.Goals as goal

pub loop-i-init : goal.loop-i-init
loop-i-init g c = ((λ i h. absurd (omega arith)), (λ i h. refl), raised_none (g.F.Field.means c.args.field.now) c.args.a c.args.row.now)

pub loop-i-preserved : goal.loop-i-preserved
loop-i-preserved g c =
    let F = g.F.Field.means c.args.field.now in
    let i = c.loop-i.i in
    let lt : i < length c.loop-i.row = omega arith in (
      below_more _ _
          (λ k h. let ne : k ≢ i = omega arith in rw get_or-set_other (c.loop-i.invariant.0 k h))
          (rw get_or-set_same c.loop-i.invariant.2),
      (λ k h. let ne : k ≢ i = omega arith in rw get_or-set_other (c.loop-i.invariant.1 k (omega arith))),
      c.add-last.ensures
          ∙ ap₂ F.sum (c.mul.ensures ∙ ap (F.product c.args.a) c.loop-i.invariant.2) (c.loop-i.invariant.1 i (omega arith))
          ∙ raised_more F c.args.a c.args.row.now i,
    )

pub returns : goal.returns
returns g c = λ u h i lt.
    c.loop-i.invariant.0 i (omega arith) ∙ raised_weighed (g.F.Field.means c.args.field.now) c.args.a u (length c.args.row.now) c.args.row.now h i lt
