use Rattle.sheet.specs.Standing.{sheet_of}
use Rattle.generator.specs.Values.{meaning_of}
use Rattle.generator.proofs.Turns.{Counted}
use Rattle.generator.proofs.table.Generator.count.Given as goal

abbrev pub invariant-loop-v : goal.invariant-loop-v
invariant-loop-v g l = Counted (meaning_of l.self) (sheet_of l.sheet) l.t l.v l.count
