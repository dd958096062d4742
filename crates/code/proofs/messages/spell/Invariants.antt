use Rattle.std.proofs.Common.{◌≡◌, ◌+◌, ◌++◌, length, drop}
use Rattle.code.specs.Messages.{digits}
use Rattle.code.proofs.messages.spell.Given as goal

-- the letters from i on are written, and the rest of the number gives those before
abbrev pub invariant-loop-i : goal.invariant-loop-i
invariant-loop-i l = digits (l.largest + 1) l.i l.rest ++ drop l.i l.message ≡ digits (l.largest + 1) (length l.initial.message) l.number
