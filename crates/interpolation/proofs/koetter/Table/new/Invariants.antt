use Rattle.std.proofs.Common.{◌≡◌}
use Rattle.interpolation.specs.Stepped.{Start}
use Rattle.interpolation.proofs.koetter.Table.new.Given as goal

abbrev pub invariant-loop-j : goal.invariant-loop-j
invariant-loop-j l = Start l.j l.table.curves × (l.table.bound ≡ l.fn.bound)
