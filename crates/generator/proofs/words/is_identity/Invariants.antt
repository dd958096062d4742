use Rattle.std.proofs.Common.{◌≡◌, true}
use Rattle.generator.specs.Generator.{all_below, unit_row}
use Rattle.generator.proofs.words.is_identity.Given as goal

abbrev pub invariant-loop-i : goal.invariant-loop-i
invariant-loop-i l = all_below l.i (unit_row l.table l.n l.k) ≡ true
