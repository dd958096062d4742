use Rattle.sheet.specs.Standing.{stands}
use Rattle.code.proofs.Below.{Clear}
use Rattle.code.proofs.sheets.is_below.Given as goal

abbrev pub invariant-loop-l : goal.invariant-loop-l
invariant-loop-l l = Clear l.q (stands l.marks) l.l
