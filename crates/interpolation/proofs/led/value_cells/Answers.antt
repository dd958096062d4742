use Rattle.std.proofs.Common.{◌≡◌, ℕ, ◌<◌, List, length, ap, ◌∙◌, ap₂, arith}
use Rattle.algebra.specs.Field.{Meaning, codes}
use Rattle.algebra.specs.Curve.{dot}
use Rattle.algebra.specs.CodeRecovery.{at}
use Rattle.algebra.proofs.Discrepancies.{dot_ext}
use Rattle.interpolation.specs.Size.{rows}
use Rattle.interpolation.specs.Region.{width, cell, row_value}
use Rattle.interpolation.proofs.Rising.{dot_none, dot_more}
use Rattle.interpolation.proofs.Entries.{part, part_cell, part_length}
use Rattle.interpolation.proofs.Padding.{value_is}
use Rattle.interpolation.proofs.led.value_cells.Goals as goal

-- The part of the cells that is summed is the row.
row : (F : Meaning) (v D : ℕ) (wx l : List ℕ) (j n : ℕ) → n ≡ width v D j → length (part j n l) ≡ n → dot (codes F) (length (part j n l)) (at wx) (at (part j n l)) ≡ row_value F v D wx l j
unfolding row_value
row F v D wx l j n e f = ap (λ k. dot (codes F) k (at wx) (at (part j n l))) f ∙ dot_ext (codes F) n (at wx) _ _ (λ i h. part_cell l j n i h) ∙ ap (λ k. dot (codes F) k (at wx) (λ i. cell l i j)) e

pub loop-j-init : goal.loop-j-init
loop-j-init g c =
    let F = g.F.Field.means c.args.field.now in
    dot_none (codes F) (at c.args.wy.now) (row_value F c.args.bound.weight c.args.bound.degree c.args.wx.now c.args.cells.now)

pub loop-j-preserved : goal.loop-j-preserved
loop-j-preserved g c =
    let F = g.F.Field.means c.args.field.now in
    let l = c.args.cells.now in
    let j = c.loop-j.j in
    let n = c.width-n.result in
    let w = c.width-n.ensures in
    let low = c.height-j-end.ensures.low in
    let few : j < rows = omega arith in
    let size = part_length l j n (omega arith) in
    c.add-sum.ensures
    ∙ ap₂ F.sum c.loop-j.invariant (c.mul.ensures ∙ ap (F.product (at c.args.wy.now j)) (c.dot.ensures ∙ row F c.args.bound.weight c.args.bound.degree c.args.wx.now l j n w size))
    ∙ dot_more (codes F) j (at c.args.wy.now) (row_value F c.args.bound.weight c.args.bound.degree c.args.wx.now l)

pub returns : goal.returns
returns g c = λ a b u w hx hy low.
    let F = g.F.Field.means c.args.field.now in
    let L = g.met.F.Field.lawful c.args.field.now in
    let h = c.height-j-end.ensures in
    c.loop-j.invariant
    ∙ value_is F L c.args.bound.weight c.args.bound.degree (omega arith) c.args.cells.now low a b u w c.args.wx.now c.args.wy.now hx hy
    c.loop-j.j (omega arith) (λ j o lt. h.rest j (omega arith) lt)
