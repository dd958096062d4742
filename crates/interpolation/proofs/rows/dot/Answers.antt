use Rattle.std.proofs.Common.{◌∙◌, ap₂}
use Rattle.algebra.specs.Field.{codes}
use Rattle.algebra.specs.CodeRecovery.{at}
use Rattle.interpolation.proofs.Rising.{dot_none, dot_more}
use Rattle.interpolation.proofs.rows.dot.Goals as goal

pub loop-i-init : goal.loop-i-init
loop-i-init g c = dot_none (codes (g.F.Field.means c.args.field.now)) (at c.args.weights.now) (at c.args.row.now)

pub loop-i-preserved : goal.loop-i-preserved
loop-i-preserved g c =
    let F = g.F.Field.means c.args.field.now in
    c.add-sum.ensures ∙ ap₂ F.sum c.loop-i.invariant c.mul.ensures ∙ dot_more (codes F) c.loop-i.i (at c.args.weights.now) (at c.args.row.now)
