use Rattle.std.proofs.Common.{◌∙◌, ap}
use Rattle.interpolation.specs.Pairs.{points, values}
use Rattle.interpolation.specs.Fitting.{among}
use Rattle.interpolation.proofs.Held.{any_among}
use Rattle.interpolation.proofs.pairs.Pairs.has.Goals as goal

pub returns : goal.returns
returns c =
    let x = c.args.pair.point in
    let y = c.args.pair.value in
    c.contains.ensures.value ∙ any_among c.held.result.now x y ∙ ap (λ ps. among (points ps) (values ps) x y) c.held.ensures
