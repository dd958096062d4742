use Rattle.std.proofs.Common.{length}
use Rattle.sheet.specs.Standing.{sheet_of}
use Rattle.concatenated.proofs.Risen.{Risen}
use Rattle.concatenated.proofs.joining.Concatenated.lift_blocks.Given as goal

abbrev pub invariant-loop-b : goal.invariant-loop-b
invariant-loop-b g l = Risen (g.I.Code.means l.self.inner) l.self.agreement (sheet_of l.sheet) (length l.initial.above) l.b l.above
