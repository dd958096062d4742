use Rattle.std.proofs.Common.{◌≡◌, ◌+◌, ◌≤◌, length, drop}
use Rattle.sheet.specs.Standing.{sheet_of}
use Rattle.code.specs.Score.{hits}
use Rattle.code.proofs.score.hits.Given as goal

-- with the score of the places left, the score is that of all places
abbrev pub invariant-loop-marks : goal.invariant-loop-marks
invariant-loop-marks l =
    (l.score + hits (sheet_of (drop (length l.yielded) l.sheet)) (drop (length l.yielded) l.word) ≡ hits (sheet_of l.sheet) l.word) × (l.score ≤ length l.yielded)
