use Rattle.sheet.specs.Standing.{sheet_of}
use Rattle.generator.specs.Values.{meaning_of}
use Rattle.generator.proofs.Turns.{Put}
use Rattle.generator.proofs.table.Generator.write.Given as goal

abbrev pub invariant-loop-v : goal.invariant-loop-v
invariant-loop-v g l = Put (meaning_of l.self) (sheet_of l.sheet) l.t l.initial.buf l.v l.at l.buf
