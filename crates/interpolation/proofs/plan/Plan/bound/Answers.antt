use Rattle.std.proofs.Common.{◌-◌, arith}
use Rattle.interpolation.proofs.Opening.{admitted}
use Rattle.interpolation.proofs.Recovering.{positive}
use Rattle.interpolation.proofs.plan.Plan.bound.Goals as goal

pub overflow_sub-result-2 : goal.overflow_sub-result-2
overflow_sub-result-2 c = positive c.args.self.now.r c.args.self.now.t c.args.self.now.r_low c.args.self.now.t_low

pub invariant_of-result : goal.invariant_of-result
invariant_of-result c =
    let p = c.args.self.now in
    let a = admitted (p.k - 1) p.t p.limit p.r p.counted in
    record { light = omega (arith, p.k_high); low = omega arith }
