use Rattle.std.proofs.Common.{subst, arith}
use Rattle.interpolation.specs.Steps.{above_at, mixed_at, RowSet}
use Rattle.interpolation.proofs.Cells.{rows_more, mixed_left}
use Rattle.interpolation.proofs.steps.mix_rows.Goals as goal

pub loop-j-preserved : goal.loop-j-preserved
loop-j-preserved g c =
    let F = g.F.Field.means c.args.field.now in
    let r = c.args.region in
    let j = c.loop-j.j in
    let old = c.args.curve.now.cells in
    let mid = c.loop-j.curve.cells in
    let new = c.mix_row.new.curve.cells in
    let f = mixed_at F c.args.root in
    rows_more (above_at r) c.args.k j (f old) (f mid j) old mid new (λ b. omega (arith, c.args.region.wide)) c.loop-j.auto.j
    (λ i h. mixed_left F (above_at r) c.args.root c.args.k j (f old) old mid c.loop-j.invariant i (omega (arith, c.args.region.wide))) c.loop-j.invariant
    (subst (λ n. RowSet 0 n j (f mid j) mid new) c.row_width.ensures c.mix_row.ensures)
