use Rattle.std.proofs.Common.{◌<◌, ◌≤◌, subst, arith}
use Rattle.sheet.specs.Standing.{sheet_of}
use Rattle.generator.specs.Values.{meaning_of}
use Rattle.generator.proofs.Turns.{counted_yes, counted_no, counted_all}
use Rattle.generator.proofs.table.Generator.count.Goals as goal
use Rattle.generator.proofs.table.Generator.count.Goals.{then-passes, else-passes}

pub loop-v-preserved : goal.loop-v-preserved
loop-v-preserved g c =
    let two = (g.met.F.Field.lawful c.args.self.now.field).two in
    let h = subst (λ z. c.loop-v.v < z) c.total-v-end.ensures c.loop-v-test.true in
    elim c.if-passes.branch [
      | then-passes w ↦ counted_yes _ _ _ c.loop-v.v c.loop-v.count (omega arith) h c.loop-v.invariant _ w.if-passes.ensures w.count-is
      | else-passes w ↦ counted_no _ _ _ c.loop-v.v c.loop-v.count (omega arith) h c.loop-v.invariant _ w.if-passes.ensures w.count-is
    ]

pub returns : goal.returns
returns g c = record {
  exact = counted_all (meaning_of c.args.self.now) (sheet_of c.args.sheet.now) c.args.t c.loop-v.v c.loop-v.count
      (subst (λ z. z ≤ c.loop-v.v) c.total-v-end.ensures c.loop-v-test.false) c.loop-v.invariant;
  few = omega (arith, c.loop-v.invariant.few, c.total-v-end.ensures, c.args.self.now.kept.few, c.loop-v.auto.v-end);
}
