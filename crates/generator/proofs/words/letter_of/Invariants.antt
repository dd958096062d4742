use Rattle.std.proofs.Common.{◌≡◌, drop}
use Rattle.generator.specs.Generator.{sum_rows, column}
use Rattle.generator.proofs.words.letter_of.Given as goal

abbrev pub invariant-loop-i : goal.invariant-loop-i
invariant-loop-i g l = l.sum ≡ sum_rows (g.F.Field.means l.field) (column l.table l.n l.j) l.i (drop l.i l.message)
