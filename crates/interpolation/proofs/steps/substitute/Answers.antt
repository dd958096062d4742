use Rattle.std.proofs.Common.{subst}
use Rattle.interpolation.specs.Steps.{wide_at, raised_at, RowsSet}
use Rattle.interpolation.proofs.Substitutions.{moved_all}
use Rattle.interpolation.proofs.steps.substitute.Goals as goal

pub returns : goal.returns
returns g c =
    moved_all (g.F.Field.means c.args.field.now) (g.met.F.Field.lawful c.args.field.now) c.args.region c.args.root
    c.args.curve.now.cells c.translate.new.curve.cells c.raise_rows.new.curve.cells c.args.region.wide c.requires.heavy c.requires.light c.translate.ensures
    (subst (λ r. RowsSet (wide_at r) 0 r.height (raised_at c.translate.new.curve.cells) c.translate.new.curve.cells c.raise_rows.new.curve.cells) c.lightened.ensures c.raise_rows.ensures)
