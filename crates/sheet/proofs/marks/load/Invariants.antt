use Rattle.std.proofs.Common.{◌≡◌, ◌-◌, ◌^◌, min, take}
use Rattle.sheet.specs.Standing.{total}
use Rattle.sheet.proofs.marks.load.Given as goal

-- the sum is the load of the places so far
abbrev pub invariant-loop-marks : goal.invariant-loop-marks
invariant-loop-marks l = l.sum ≡ min (total (take l.marks-index l.sheet)) (2 ^ 64 - 1)
