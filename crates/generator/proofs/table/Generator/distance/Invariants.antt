use Rattle.std.proofs.Common.{◌≡◌}
use Rattle.generator.specs.Values.{meaning_of}
use Rattle.generator.proofs.Turns.{Lowest}
use Rattle.generator.proofs.table.Generator.distance.Given as goal

abbrev pub invariant-loop-v : goal.invariant-loop-v
invariant-loop-v g l = l.best ≡ Lowest (meaning_of l.self) l.v
