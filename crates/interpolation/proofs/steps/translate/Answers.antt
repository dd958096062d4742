use Rattle.std.proofs.Common.{◌≡◌, suc, ◌-◌, subst, arith}
use Rattle.interpolation.proofs.Substitutions.{Part, part_next, part_all}
use Rattle.interpolation.proofs.steps.translate.Goals as goal

pub loop-k-preserved : goal.loop-k-preserved
loop-k-preserved g c =
    let F = g.F.Field.means c.args.field.now in
    let X = c.args.region.width in
    let Y = c.args.region.height in
    let k = c.loop-k.k in
    let old = c.args.curve.now.cells in
    let mid = c.loop-k.curve.cells in
    let new = c.mix_rows.new.curve.cells in
    let a : k ≡ suc (k - 1) = omega arith in
    let b : suc (Y - k) ≡ Y - (k - 1) = omega arith in
    subst (λ n. Part F X c.args.root old n (k - 1) new) b
    (part_next F (g.met.F.Field.lawful c.args.field.now) c.args.region c.args.root old mid new (Y - k) (k - 1) c.args.region.wide (omega arith) c.requires.light
    (subst (λ k'. Part F X c.args.root old (Y - k) k' mid) a c.loop-k.invariant) c.mix_rows.ensures)

pub returns : goal.returns
returns g c =
    let F = g.F.Field.means c.args.field.now in
    let r = c.args.region in
    let z : c.loop-k.k ≡ 0 = omega arith in
    let y : r.height - 0 ≡ r.height = omega arith in
    part_all F r c.args.root c.args.curve.now.cells c.loop-k.curve.cells
    (subst (λ n. Part F r.width c.args.root c.args.curve.now.cells n 0 c.loop-k.curve.cells) y
    (subst (λ k. Part F r.width c.args.root c.args.curve.now.cells (r.height - k) k c.loop-k.curve.cells) z c.loop-k.invariant))
