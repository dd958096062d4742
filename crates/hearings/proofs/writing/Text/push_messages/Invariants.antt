use Rattle.std.proofs.Common.{◌≡◌, ℕ, ◌*◌, length}
use Rattle.code.specs.Messages.{each, rows}
use Rattle.hearings.specs.Lines.{message_line}
use Rattle.hearings.specs.Values.{message_lines}
use Rattle.hearings.proofs.Wrote.{Rest}
use Rattle.hearings.proofs.writing.Text.push_messages.Given as goal

abbrev pub invariant-loop-message : goal.invariant-loop-message
invariant-loop-message l =
    (l.message-iterator.size ≡ l.messages.k) × ((n : ℕ) × (length l.message-iterator.rest.now ≡ n * l.messages.k)
    × Rest l.self (each message_line (rows l.messages.k n l.message-iterator.rest.now)) l.fn.self (message_lines l.messages))
