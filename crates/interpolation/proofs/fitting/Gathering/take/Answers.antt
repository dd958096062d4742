use Rattle.std.proofs.Common.{sym, arith}
use Rattle.interpolation.specs.Pairs.{points_of, values_of}
use Rattle.interpolation.proofs.Recovering.{more_gathered}
use Rattle.interpolation.proofs.fitting.Gathering.take.Goals as goal

pub invariant_of-self : goal.invariant_of-self
invariant_of-self g c =
    record {
      gathered = more_gathered (g.F.Field.means c.args.self.now.field.now) c.args.self.now.plan.limit c.size-size.result (points_of c.args.self.now.pairs) (values_of c.args.self.now.pairs)
          c.args.point c.args.value _ _ c.args.self.now.gathered c.size-size.ensures (sym c.if-not-is_point.ensures) c.if-value-size.false (sym c.if-has.ensures)
          (omega (arith, c.len-held.ensures.value, c.if-held-self.false)) c.push.ensures.points c.push.ensures.values;
    }
