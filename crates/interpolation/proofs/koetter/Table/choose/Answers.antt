use Rattle.std.proofs.Common.{rules, arith}
use Rattle.std.proofs.lemmas.Grind.{common_steps}
use Rattle.interpolation.proofs.koetter.Table.choose.Goals as goal
use Rattle.interpolation.proofs.koetter.Table.choose.Goals.{then-d-ne0+then-is_none_or, else-d-ne0, else-d-ne0-via-then-d-ne0+else-is_none_or, else-d-ne0-via-else-d-ne0}

pub loop-j-preserved : goal.loop-j-preserved
loop-j-preserved c = elim c.if-d-ne0.branch [
  | then-d-ne0+then-is_none_or w ↦ rw w.best-is record { low = search rules; off = search rules; least = grind (arith, common_steps); none = search rules }
  | else-d-ne0 w ↦ rw w.best-is (elim w.else-d-ne0.branch [
    | else-d-ne0-via-then-d-ne0+else-is_none_or w' ↦ record { low = search rules; off = c.loop-j.invariant.off; least = grind (arith, common_steps); none = grind (arith, common_steps) }
    | else-d-ne0-via-else-d-ne0 w' ↦ record { low = search rules; off = c.loop-j.invariant.off; least = grind (arith, common_steps); none = grind (arith, common_steps) }
  ])
]
