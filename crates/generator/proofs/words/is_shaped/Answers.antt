use Rattle.std.proofs.Common.{arith}
use Rattle.generator.proofs.Checks.{pow_small}
use Rattle.generator.proofs.words.is_shaped.Goals as goal

pub pow-requires : goal.pow-requires
pow-requires c = pow_small c.args.q c.args.k c.requires (omega arith)
