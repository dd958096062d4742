use Rattle.std.proofs.Common.{◌≡◌, ℕ, ◌<◌, List, ◌∙◌, ap₂, arith}
use Rattle.algebra.specs.Field.{Meaning}
use Rattle.interpolation.specs.Size.{rows}
use Rattle.interpolation.specs.Region.{cell, mixed, mixed_cell}
use Rattle.interpolation.proofs.Entries.{part_cell, part_length, still, changed_more}
use Rattle.interpolation.proofs.led.mix_cells.Goals as goal

-- The row as it is mixed is the curve's.
here : (F : Meaning) (d : ℕ) (l : List ℕ) (e : ℕ) (g : List ℕ) (j i x y : ℕ) → x ≡ cell l i j → y ≡ cell g i j → mixed F d x e y ≡ mixed_cell F d l e g i j
unfolding mixed_cell
here F d l e g j i x y p q = ap₂ (λ x y. mixed F d x e y) p q

pub loop-j-preserved : goal.loop-j-preserved
loop-j-preserved g c =
    let F = g.F.Field.means c.args.field.now in
    let new = mixed_cell F c.args.d c.args.cells.now c.args.e c.args.pivot.now in
    let j = c.loop-j.j in
    let n = c.width-n.result in
    let w = c.width-n.ensures in
    let low = c.height-j-end.ensures.low in
    let few : j < rows = omega arith in
    let size = part_length c.loop-j.cells j n (omega arith) in
    changed_more c.args.bound.weight c.args.bound.degree new c.args.cells.now j n c.loop-j.cells c.mix_row.new.row
    (omega arith) few w (omega arith) (omega arith)
    (λ i h. c.mix_row.ensures i (omega arith)
    ∙ here F c.args.d c.args.cells.now c.args.e c.args.pivot.now j i _ _
    (part_cell c.loop-j.cells j n i h ∙ still c.args.bound.weight c.args.bound.degree new c.args.cells.now j c.loop-j.cells c.loop-j.invariant few i (omega arith))
    (part_cell c.args.pivot.now j n i h))
    c.loop-j.invariant
