use Rattle.std.proofs.Common.{◌≤◌, length}
use Rattle.hearings.specs.File.{entries}
use Rattle.hearings.specs.Text.{unchosen, lines}
use Rattle.hearings.specs.Readers.{book_of}
use Rattle.hearings.proofs.Fronts.{left_in_file}
use Rattle.hearings.proofs.Wrote.{Rest}
use Rattle.hearings.proofs.writing.Text.push_records.Given as goal

abbrev pub invariant-loop-item : goal.invariant-loop-item
invariant-loop-item l =
    (length l.left ≤ length l.file)
    × Rest l.self (lines (book_of l.reader) (left_in_file (length l.file) l.left)) l.fn.self (lines unchosen (entries l.file))

abbrev pub decreases-loop-item : goal.decreases-loop-item
decreases-loop-item l = length l.left
