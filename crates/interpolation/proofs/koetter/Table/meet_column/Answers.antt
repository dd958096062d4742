use Rattle.std.proofs.Common.{◌≡◌, ◌+◌, ◌-◌, refl, ◌∙◌, subst, arith}
use Rattle.interpolation.specs.Stepped.{StepsAt, PlacesMet}
use Rattle.interpolation.proofs.Rising.{front_raised, front_length}
use Rattle.interpolation.proofs.Onward.{places_none, bounded, places_more, columns_more}
use Rattle.interpolation.proofs.koetter.Table.meet_column.Goals as goal

pub loop-u-init : goal.loop-u-init
loop-u-init g c = record {
  met = λ ps t here h. places_none (g.F.Field.means c.args.field.now) (g.met.F.Field.lawful c.args.field.now) c.args.self.now.bound c.args.r
      ps t c.args.w c.args.self.now.curves h;
  weighed = c.requires.first;
  bound = refl;
  wide = refl;
  size = c.told-first;
}

pub loop-u-preserved : goal.loop-u-preserved
loop-u-preserved g c =
    let F = g.F.Field.means c.args.field.now in
    let L = g.met.F.Field.lawful c.args.field.now in
    let bound = c.args.self.now.bound in
    let pair = c.args.pair in
    let w = c.args.w in
    let u = c.loop-u.u in
    let cs = c.loop-u.self.curves in
    let cs' = c.step.new.self.curves in
    let same = c.loop-u.invariant.bound in
    let hx = c.loop-u.invariant.weighed in
    let stepped = subst (λ bound. StepsAt F bound pair.point c.loop-u.wx c.args.wy.now cs cs') same c.step.ensures.stepped in
    record {
      met = λ ps t here h.
          let met = c.loop-u.invariant.met ps t here h in
          places_more F L bound c.args.r ps t w u pair cs cs' here
          (stepped pair.value u w hx c.requires.second (bounded F L bound c.args.r ps t w u cs met)) met;
      weighed = front_raised F pair.point u (bound.degree + 1) c.loop-u.wx c.raise.new.row (omega arith) c.raise.auto.row (c.raise.ensures u) hx;
      bound = c.step.ensures.bound ∙ same;
      wide = c.loop-u.invariant.wide;
      size = front_length (bound.degree + 1) c.loop-u.wx c.raise.new.row c.raise.auto.row ∙ c.loop-u.invariant.size;
    }

pub returns-clause-met : goal.returns-clause-met
returns-clause-met g c = λ ps t here h.
    let F = g.F.Field.means c.args.field.now in
    let e : c.loop-u.u ≡ c.args.r - c.args.w = omega arith in
    columns_more F (g.met.F.Field.lawful c.args.field.now) c.args.self.now.bound c.args.r ps t c.args.w c.loop-u.self.curves
    (subst (λ u. PlacesMet F c.args.self.now.bound c.args.r ps t c.args.w u c.loop-u.self.curves) e (c.loop-u.invariant.met ps t here h))
