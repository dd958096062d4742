use Rattle.std.proofs.Common.{◌≡◌, ◌+◌, ◌-◌, ◌*◌, ◌/◌, ◌<◌, length, sym, ap, ◌∙◌, subst, subst₂, arith}
use Rattle.std.proofs.lemmas.List.{length-map}
use Rattle.algebra.specs.Interpolation.{monomials}
use Rattle.interpolation.specs.Pairs.{pairs_of, points_of}
use Rattle.interpolation.proofs.Opening.{more_monomials}
use Rattle.interpolation.proofs.Recovering.{conditions_le, fitted_same}
use Rattle.interpolation.proofs.fitting.Gathering.close.Goals as goal

pub interpolate-curve-requires : goal.interpolate-curve-requires
interpolate-curve-requires g c =
    let p = c.args.self.plan in
    let n : length (points_of c.args.self.pairs) ≡ length c.held.result.now = length-map (pairs_of c.args.self.pairs) (λ p. p.point) ∙ ap length (sym c.held.ensures) in
    let m = more_monomials (p.k - 1) p.t p.limit p.r p.counted in
    let f = conditions_le (length (points_of c.args.self.pairs)) p.limit p.r c.args.self.gathered.few in
    subst (λ l. l * p.r * (p.r + 1) / 2 < monomials 16 c.bound.result.weight c.bound.result.degree) n
    (subst₂ (λ v d. length (points_of c.args.self.pairs) * p.r * (p.r + 1) / 2 < monomials 16 v d) (sym c.bound.ensures.weight) (sym c.bound.ensures.degree) (omega (arith, f, m)))

pub invariant_of-result : goal.invariant_of-result
invariant_of-result g c = record {
  around = ∣ record {
    pairs = c.args.self.gathered.pairs;
    fitted =
        fitted_same (g.F.Field.means c.args.self.field.now) _ (c.args.self.plan.k - 1) _ _ c.args.self.plan.r _ _ c.interpolate-curve.result.cells
        c.bound.ensures.weight c.bound.ensures.degree c.held.ensures c.interpolate-curve.ensures;
  } ∣₁;
}

pub returns-clause-made : goal.returns-clause-made
returns-clause-made g c = record {
  pairs = c.args.self.gathered.pairs;
  fitted =
      fitted_same (g.F.Field.means c.args.self.field.now) _ (c.args.self.plan.k - 1) _ _ c.args.self.plan.r _ _ c.interpolate-curve.result.cells
      c.bound.ensures.weight c.bound.ensures.degree c.held.ensures c.interpolate-curve.ensures;
}
