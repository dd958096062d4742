use Rattle.std.proofs.Common.{◌≡◌, ℕ, ◌+◌, ◌*◌, true, ltb, length}
use Rattle.sheet.specs.Letters.{union}
use Rattle.sheet.specs.Standing.{stands}
use Rattle.code.specs.Messages.{every, number, rows}
use Rattle.concatenated.specs.Lifted.{numbers}
use Rattle.concatenated.proofs.lifting.gather.Given as goal

-- the marks, and the numbers of the n messages that are left, are the numbers of all
abbrev pub invariant-loop-message : goal.invariant-loop-message
invariant-loop-message l =
    (l.message-iterator.size ≡ l.k) × ((n : ℕ) × (length l.message-iterator.rest.now ≡ n * l.k)
    × (union (stands l.marks) (numbers (l.last + 1) (rows l.k n l.message-iterator.rest.now)) ≡ numbers (l.last + 1) (rows l.k l.count l.found))
    × (every (λ m. ltb (number (l.last + 1) m) 256) (rows l.k n l.message-iterator.rest.now) ≡ true))
