use Rattle.std.proofs.Common.{◌-◌}
use Rattle.interpolation.proofs.Substitutions.{Part}
use Rattle.interpolation.proofs.steps.translate.Given as goal

abbrev pub invariant-loop-k : goal.invariant-loop-k
invariant-loop-k g l = Part (g.F.Field.means l.field) l.region.width l.root l.initial.curve.cells (l.region.height - l.k) l.k l.curve.cells
