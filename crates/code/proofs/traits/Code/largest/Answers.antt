use Rattle.std.proofs.Common.{arith}
use Rattle.code.proofs.traits.Code.largest.Goals as goal

pub overflow_sub-result : goal.overflow_sub-result
overflow_sub-result g c = let sizes = (g.met.Self.Code.lawful c.args.self.now).sizes in omega (arith, c.base.ensures, sizes.p_low)

pub overflow_cast-result : goal.overflow_cast-result
overflow_cast-result g c = let sizes = (g.met.Self.Code.lawful c.args.self.now).sizes in omega (arith, c.base.ensures, sizes.p_high)

pub returns : goal.returns
returns g c = let sizes = (g.met.Self.Code.lawful c.args.self.now).sizes in omega (arith, c.base.ensures, sizes.p_low)
