use Rattle.std.proofs.Common.{ℕ, ◌+◌, ◌*◌, ◌/◌, ◌<◌, ◌≤◌, length, sym, subst}
use Rattle.algebra.specs.Field.{codes}
use Rattle.algebra.specs.Interpolation.{monomials, Fitted}
use Rattle.algebra.specs.CodeRecovery.{at, table}
use Rattle.interpolation.specs.declared.curve.Bound.{Bound}
use Rattle.interpolation.specs.Pairs.{points, values}
use Rattle.interpolation.specs.Size.{columns, rows}
use Rattle.interpolation.specs.Stepped.{led, lead_degree}
use Rattle.interpolation.proofs.Onward.{fitted, not_all_dead}
use Rattle.interpolation.proofs.koetter.interpolate.Goals as goal

pub unreachable-requires : goal.unreachable-requires
unreachable-requires g c =
    let F = g.F.Field.means c.args.field.now in
    let ps = c.args.pairs.now in
    let cs = c.meet.new.self.curves in
    let bound = c.new-table.result.bound in
    let more = subst (λ (b : Bound). length ps * c.args.r * (c.args.r + 1) / 2 < monomials rows b.weight b.degree) (sym c.new-table.ensures.bound) c.requires in
    not_all_dead F (g.met.F.Field.lawful c.args.field.now) bound c.args.r ps cs c.meet.ensures.met more
    (subst (λ (b : Bound). (j : ℕ) → j < rows → b.degree < lead_degree b cs j) c.meet.ensures.bound (c.first_live.ensures.dead c.in-None.is))

pub returns : goal.returns
returns g c =
    let F = g.F.Field.means c.args.field.now in
    let ps = c.args.pairs.now in
    let cs = c.meet.new.self.curves in
    let bound = c.new-table.result.bound in
    let j = c.in-Some.j in
    let live = c.in-Some.ensures.live in
    subst (λ (b : Bound). Fitted (codes F) columns rows b.weight b.degree c.args.r (length ps) (at (points ps)) (at (values ps)) (table F columns (led cs j).curve.cells)) c.new-table.ensures.bound
    (fitted F (g.met.F.Field.lawful c.args.field.now) bound c.args.r ps cs j c.meet.ensures.met live.0
    (subst (λ (b : Bound). lead_degree b cs j ≤ b.degree) c.meet.ensures.bound live.1))
