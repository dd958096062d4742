use Rattle.std.proofs.Common.{◌≡◌, refl, ◌∙◌, subst, add-one, arith}
use Rattle.interpolation.specs.Stepped.{ColumnsMet, MeetsColumn}
use Rattle.interpolation.proofs.Onward.{columns_none, pairs_more}
use Rattle.interpolation.proofs.koetter.Table.meet_pair.Goals as goal

pub loop-w-init : goal.loop-w-init
loop-w-init g c = record {
  met = λ ps t here h. columns_none (g.F.Field.means c.args.field.now) (g.met.F.Field.lawful c.args.field.now) c.args.self.now.bound c.args.r
      ps t c.args.self.now.curves h;
  weighed = c.powers-2.ensures;
  bound = refl;
  size = omega arith;
}

pub loop-w-preserved : goal.loop-w-preserved
loop-w-preserved g c =
    let F = g.F.Field.means c.args.field.now in
    let same = c.loop-w.invariant.bound in
    let w = c.loop-w.w in
    record {
      met = λ ps t here h.
          subst (λ bound. MeetsColumn F bound c.args.r c.args.pair w c.loop-w.self.curves c.meet_column.new.self.curves) same c.meet_column.ensures.met ps t here
          (c.loop-w.invariant.met ps t here h);
      weighed = λ i h. rw add-one (c.raise.ensures w (λ i h. c.loop-w.invariant.weighed i (omega arith)) i (omega arith));
      bound = c.meet_column.ensures.bound ∙ same;
      size = omega arith;
    }

pub returns-clause-met : goal.returns-clause-met
returns-clause-met g c = λ ps t here h.
    let F = g.F.Field.means c.args.field.now in
    let e : c.loop-w.w ≡ c.args.r = omega arith in
    pairs_more F (g.met.F.Field.lawful c.args.field.now) c.args.self.now.bound c.args.r ps t c.loop-w.self.curves
    (subst (λ w. ColumnsMet F c.args.self.now.bound c.args.r ps t w c.loop-w.self.curves) e (c.loop-w.invariant.met ps t here h))
