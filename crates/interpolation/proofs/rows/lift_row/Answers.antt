use Rattle.std.proofs.Common.{◌<◌, ◌≢◌, length, refl, ap, ◌∙◌, ap₂, arith, get_or-set_other, get_or-set_same, below_more}
use Rattle.algebra.specs.Field.{codes}
use Rattle.algebra.specs.CodeRecovery.{at}
use Rattle.interpolation.proofs.Rising.{up_none, up_more}
use Rattle.interpolation.proofs.rows.lift_row.Goals as goal

pub loop-i-init : goal.loop-i-init
loop-i-init g c = ((λ i h. absurd (omega arith)), (λ i h. refl), up_none (codes (g.F.Field.means c.args.field.now)) (at c.args.row.now))

pub loop-i-preserved : goal.loop-i-preserved
loop-i-preserved g c =
    let F = g.F.Field.means c.args.field.now in
    let i = c.loop-i.i in
    let lt : i < length c.loop-i.row = omega arith in
    let same = c.loop-i.invariant.1 i (omega arith) in (
      below_more _ _
          (λ k h. let ne : k ≢ i = omega arith in rw get_or-set_other (c.loop-i.invariant.0 k h))
          (rw get_or-set_same (c.sub.ensures ∙ ap₂ F.difference c.loop-i.invariant.2 (c.mul.ensures ∙ ap (F.product c.args.a) same))),
      (λ k h. let ne : k ≢ i = omega arith in rw get_or-set_other (c.loop-i.invariant.1 k (omega arith))),
      same ∙ up_more (codes F) (at c.args.row.now) i,
    )
