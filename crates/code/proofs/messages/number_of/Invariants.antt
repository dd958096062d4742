use Rattle.std.proofs.Common.{◌≡◌, ◌+◌, ◌^◌, ◌<◌, drop}
use Rattle.code.specs.Messages.{number_from}
use Rattle.code.proofs.messages.number_of.Given as goal

-- going on from the sum with the letters left gives the number
abbrev pub invariant-loop-letter : goal.invariant-loop-letter
invariant-loop-letter l = (number_from (l.largest + 1) l.sum (drop l.letter-index l.message) ≡ number_from (l.largest + 1) 0 l.message) × (l.sum < 2 ^ 64)
