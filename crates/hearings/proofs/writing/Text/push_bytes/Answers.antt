use Rattle.std.proofs.Common.{sym}
use Rattle.std.proofs.lemmas.List.{take_more}
use Rattle.hearings.proofs.Wrote.{wrote_then, wrote_as}
use Rattle.hearings.proofs.writing.Text.push_bytes.Goals as goal

pub loop-byte-preserved : goal.loop-byte-preserved
loop-byte-preserved c =
    wrote_as (sym (take_more c.args.bytes.now c.loop-byte.byte-index 0 c.loop-byte-test.true))
    (wrote_then c.loop-byte.invariant c.push.ensures)
