use Rattle.std.proofs.Common.{◌≡◌, ℕ, zero, suc, ◌<◌, List, ap, ◌∙◌, ap₂, arith}
use Rattle.algebra.specs.Field.{Meaning}
use Rattle.algebra.specs.Interpolation.{up}
use Rattle.algebra.specs.CodeRecovery.{at}
use Rattle.interpolation.specs.Size.{rows}
use Rattle.interpolation.specs.Region.{cell, lifted, lifted_cell}
use Rattle.interpolation.proofs.Entries.{part, part_cell, part_length, still, changed_more}
use Rattle.interpolation.proofs.led.lift_cells.Goals as goal

-- The row as it is lifted is the curve's.
here : (F : Meaning) (a : ℕ) (l p : List ℕ) (j n : ℕ) → ((i : ℕ) → i < n → at p i ≡ cell l i j) → (i : ℕ) → i < n → lifted F a (at p) i ≡ lifted_cell F a l i j
unfolding lifted_cell up
here F a l p j n e zero h = ap (λ x. F.difference 0 (F.product a x)) (e 0 h)
here F a l p j n e (suc i) h = ap₂ (λ x y. F.difference x (F.product a y)) (e i (omega arith)) (e (suc i) h)

pub loop-j-preserved : goal.loop-j-preserved
loop-j-preserved g c =
    let F = g.F.Field.means c.args.field.now in
    let new = lifted_cell F c.args.a c.args.cells.now in
    let j = c.loop-j.j in
    let n = c.width-n.result in
    let w = c.width-n.ensures in
    let low = c.height-j-end.ensures.low in
    let few : j < rows = omega arith in
    let size = part_length c.loop-j.cells j n (omega arith) in
    changed_more c.args.bound.weight c.args.bound.degree new c.args.cells.now j n c.loop-j.cells c.lift_row.new.row
    (omega arith) few w (omega arith) (omega arith)
    (λ i h. c.lift_row.ensures i (omega arith)
    ∙ here F c.args.a c.args.cells.now (part j n c.loop-j.cells) j n
    (λ i h. part_cell c.loop-j.cells j n i h ∙ still c.args.bound.weight c.args.bound.degree new c.args.cells.now j c.loop-j.cells c.loop-j.invariant few i (omega arith)) i h)
    c.loop-j.invariant
