use Rattle.std.proofs.Common.{◌+◌, arith}
use Rattle.code.proofs.Spelt.{spell_more, spell_all}
use Rattle.code.proofs.messages.spell.Goals as goal

pub loop-i-preserved : goal.loop-i-preserved
loop-i-preserved c = spell_more (c.args.largest + 1) c.loop-i.i c.loop-i.rest c.loop-i.message _ (omega arith) (omega arith) c.loop-i.invariant

pub returns : goal.returns
returns c = spell_all (c.args.largest + 1) c.loop-i.i c.loop-i.rest c.loop-i.message _ (omega arith) c.loop-i.invariant
