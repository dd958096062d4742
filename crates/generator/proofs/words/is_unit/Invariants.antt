use Rattle.std.proofs.Common.{◌≡◌, true, nat_eq, slice_index}
use Rattle.generator.specs.Generator.{all_below, unit}
use Rattle.generator.proofs.words.is_unit.Given as goal

abbrev pub invariant-loop-j : goal.invariant-loop-j
invariant-loop-j l = all_below l.j (λ j. nat_eq (slice_index l.row j) (unit l.i j)) ≡ true
