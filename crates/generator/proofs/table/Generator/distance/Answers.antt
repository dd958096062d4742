use Rattle.std.proofs.Common.{◌<◌, ◌≤◌, ◌∙◌, subst, arith}
use Rattle.generator.specs.Generator.{gen_distance}
use Rattle.generator.specs.Values.{meaning_of}
use Rattle.generator.proofs.Turns.{lowest_more, lowest_all}
use Rattle.generator.proofs.table.Generator.distance.Goals as goal

pub loop-v-preserved : goal.loop-v-preserved
loop-v-preserved g c =
    let two = (g.met.F.Field.lawful c.args.self.now.field).two in
    lowest_more (meaning_of c.args.self.now) c.loop-v.v c.loop-v.best _ (omega arith)
    (subst (λ z. c.loop-v.v < z) c.total-v-end.ensures c.loop-v-test.true) c.loop-v.invariant c.fewer-best.ensures

pub returns : goal.returns
unfolding gen_distance
returns g c =
    c.loop-v.invariant ∙ lowest_all (meaning_of c.args.self.now) c.loop-v.v (subst (λ z. z ≤ c.loop-v.v) c.total-v-end.ensures c.loop-v-test.false)
