use Rattle.std.proofs.Common.{take}
use Rattle.hearings.specs.Writing.{Wrote}
use Rattle.hearings.proofs.writing.Text.push_bytes.Given as goal

abbrev pub invariant-loop-byte : goal.invariant-loop-byte
invariant-loop-byte l = Wrote l.fn.self (take l.byte-index l.bytes) l.self
