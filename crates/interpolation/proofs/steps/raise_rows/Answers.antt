use Rattle.std.proofs.Common.{subst, arith}
use Rattle.interpolation.specs.Steps.{wide_at, raised_at, RowSet}
use Rattle.interpolation.proofs.Cells.{rows_more, raised_left}
use Rattle.interpolation.proofs.steps.raise_rows.Goals as goal

pub loop-j-preserved : goal.loop-j-preserved
loop-j-preserved c =
    let r = c.args.region in
    let j = c.loop-j.j in
    let old = c.args.curve.now.cells in
    let mid = c.loop-j.curve.cells in
    let new = c.raise_row.new.curve.cells in
    rows_more (wide_at r) 0 j (raised_at old) (raised_at mid j) old mid new (λ b. omega (arith, c.args.region.wide)) (omega arith)
    (λ i h. raised_left (wide_at r) j (raised_at old) old mid c.loop-j.invariant i (omega (arith, c.args.region.wide))) c.loop-j.invariant
    (subst (λ n. RowSet 0 n j (raised_at mid j) mid new) c.row_width.ensures c.raise_row.ensures)
