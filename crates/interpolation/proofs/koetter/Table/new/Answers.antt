use Rattle.std.proofs.Common.{replicate, refl}
use Rattle.interpolation.specs.Size.{cells}
use Rattle.interpolation.specs.Stepped.{zeros}
use Rattle.interpolation.proofs.Starting.{start_none, start_more, start_all}
use Rattle.interpolation.proofs.koetter.Table.new.Goals as goal

pub loop-j-init : goal.loop-j-init
unfolding zeros
loop-j-init c = (start_none (record { curve = record { cells = replicate cells 0 }; lead = 0 }) refl refl, refl)

pub loop-j-preserved : goal.loop-j-preserved
loop-j-preserved c = (
  start_more c.loop-j.j c.loop-j.table.curves _ c.loop-j-test.true c.loop-j.invariant.0 refl refl,
  c.loop-j.invariant.1,
)

pub returns : goal.returns
returns c = record { fresh = start_all _ _ c.loop-j-test.false c.loop-j.invariant.0; bound = c.loop-j.invariant.1 }
