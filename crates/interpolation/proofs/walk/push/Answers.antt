use Rattle.std.proofs.Common.{length, refl, arith}
use Rattle.interpolation.proofs.Stores.{held_put}
use Rattle.interpolation.proofs.walk.push.Goals as goal

pub returns-clause-held : goal.returns-clause-held
returns-clause-held c = held_put (length c.args.message.now) c.args.message.now c.args.buf.now c.copy_from_slice.new.self c.args.used refl (omega arith) c.copy_from_slice.ensures.after
