use Rattle.std.proofs.Common.{◌+◌, refl, ◌∙◌, subst}
use Rattle.interpolation.specs.Stepped.{PairsMet}
use Rattle.interpolation.proofs.Onward.{pairs_none, is_at}
use Rattle.interpolation.proofs.koetter.Table.meet.Goals as goal

pub loop-pair-init : goal.loop-pair-init
loop-pair-init g c = (
  pairs_none (g.F.Field.means c.args.field.now) (g.met.F.Field.lawful c.args.field.now) c.args.self.now.bound c.args.r c.args.pairs.now c.args.self.now.curves c.requires.fresh,
  refl,
)

pub loop-pair-preserved : goal.loop-pair-preserved
loop-pair-preserved g c =
    let F = g.F.Field.means c.args.field.now in
    let ps = c.args.pairs.now in
    let t = c.loop-pair.pair-index in
    let same = c.loop-pair.invariant.1 in (
      subst (λ bound. PairsMet F bound c.args.r ps t c.loop-pair.self.curves → PairsMet F bound c.args.r ps (t + 1) c.meet_pair.new.self.curves) same
          (c.meet_pair.ensures.met ps t (is_at ps t _ c.loop-pair-test.true)) c.loop-pair.invariant.0,
      c.meet_pair.ensures.bound ∙ same,
    )
