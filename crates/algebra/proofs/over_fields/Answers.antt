use Rattle.algebra.proofs.Vanishing.{vanishing, unique}
use Rattle.algebra.proofs.Roots.{few}
use Rattle.algebra.proofs.Interpolation.{step_keeps, run_ends, interpolates}
use Rattle.algebra.proofs.Walk.{walk_meets}
use Rattle.algebra.proofs.over_fields.Goals as goal

pub returns : goal.returns
returns g c =
    let l = g.K.Scalar.laws in
    record { vanishing = vanishing l; few = few l; unique = unique l; step = step_keeps l; ends = run_ends l; exists = interpolates l; walk = walk_meets l }
