use Rattle.interpolation.specs.Stepped.{Chosen}
use Rattle.interpolation.proofs.koetter.Table.choose.Given as goal

abbrev pub invariant-loop-j : goal.invariant-loop-j
invariant-loop-j l = Chosen l.self.bound l.self.curves l.discrepancies l.j-counter l.best
