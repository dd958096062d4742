use Rattle.std.proofs.Common.{ℕ, ◌<◌, ◌≤◌, ◌≢◌, refl, arith}
use Rattle.algebra.specs.CodeRecovery.{at}
use Rattle.interpolation.specs.Size.{rows}
use Rattle.interpolation.specs.Stepped.{led, lead_degree}
use Rattle.interpolation.proofs.Stepping.{fails_live, step_none_made, step_one_made}
use Rattle.interpolation.proofs.koetter.Table.step.Goals as goal

pub apply-requires : goal.apply-requires
apply-requires g c =
    let bound = c.args.self.now.bound in
    let cs = c.args.self.now.curves in
    let ds = c.values-discrepancies.result in
    let live = λ (j : ℕ) (h : j < rows) (off : at ds j ≢ 0).
    fails_live (g.F.Field.means c.args.field.now) (g.met.F.Field.lawful c.args.field.now) bound c.args.wx.now c.args.wy.now (led cs j) j (at ds j) (c.values-discrepancies.ensures j h) off in
    let chosen = c.in-Some.ensures in
    let pivot : lead_degree bound cs c.in-Some.p ≤ bound.degree = live c.in-Some.p chosen.low chosen.off in
    record {
      row = chosen.low;
      lead = omega arith;
      room = λ j h off. let fails = live j h off in omega arith;
    }

pub returns-in-Some : goal.returns-in-Some
returns-in-Some g c = record {
  stepped = λ b u w hx hy bounded.
      step_one_made (g.F.Field.means c.args.field.now) (g.met.F.Field.lawful c.args.field.now) c.args.self.now.bound c.args.a b u w c.args.wx.now c.args.wy.now hx hy
      c.args.self.now.curves c.values-discrepancies.result bounded c.values-discrepancies.ensures c.in-Some.p _ c.in-Some.ensures c.apply.ensures.applied;
  bound = c.apply.ensures.bound;
}

pub returns-in_default : goal.returns-in_default
returns-in_default g c = record {
  stepped = λ b u w hx hy bounded.
      step_none_made (g.F.Field.means c.args.field.now) (g.met.F.Field.lawful c.args.field.now) c.args.self.now.bound c.args.a b u w c.args.wx.now c.args.wy.now hx hy
      c.args.self.now.curves c.values-discrepancies.result bounded c.values-discrepancies.ensures c.in_default.ensures;
  bound = refl;
}
