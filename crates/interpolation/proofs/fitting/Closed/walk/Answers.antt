use Rattle.std.proofs.Common.{◌+◌, ◌-◌, ◌*◌, ◌≤◌, subst, subst₂}
use Rattle.std.proofs.Props.{props}
use Rattle.std.proofs.Math.Logic.{∥∥₁_elim}
use Rattle.algebra.specs.CodeRecovery.{score}
use Rattle.interpolation.specs.Pairs.{points, values, points_of, values_of}
use Rattle.interpolation.specs.Fitting.{Around}
use Rattle.interpolation.proofs.Opening.{admitted}
use Rattle.interpolation.proofs.Recovering.{covers, light, positive, lies_prop}
use Rattle.interpolation.proofs.fitting.Closed.walk.Goals as goal

pub walk-requires : goal.walk-requires
walk-requires g c =
    let F = g.F.Field.means c.args.self.field.now in
    let L = g.met.F.Field.lawful c.args.self.field.now in
    let p = c.args.self.plan in
    let xs = points_of c.args.self.pairs in
    let ys = values_of c.args.self.pairs in
    let l = c.args.self.curve.cells in
    let a = admitted (p.k - 1) p.t p.limit p.r p.counted in
    let d = c.bound.ensures.degree in
    let pos = positive p.r p.t p.r_low p.t_low in
    let around : ∥ Around F p.k p.t p.r xs ys l ∥₁ = c.args.self.around in
    record {
      weight = c.bound.ensures.weight;
      light = λ i j hi hj o. ∥∥₁_elim around (Prim.hlevel props) (λ w. light F L p.k p.t p.r xs ys l p.k_low pos w.pairs w.fitted i j hi hj (subst₂ (λ v z. z + 1 ≤ i + v * j) c.bound.ensures.weight d o));
      covers = λ f row h. ∥∥₁_elim around (lies_prop F l f)
          (λ w. covers F L p.k p.t p.r xs ys l p.k_low pos w.pairs w.fitted f row
          (subst (λ ps. p.t ≤ score F (points ps) (values ps) f) c.held.ensures h));
    }
