use Rattle.std.proofs.Common.{◌≡◌, ◌+◌, ◌-◌, is_some, sym, ap, ◌∙◌, arith}
use Rattle.counting.specs.Counting.{limits, in_reach}
use Rattle.reed_solomon.specs.LeastLemmas as least
use Rattle.reed_solomon.specs.LeastLemmas.{least_here}
use Rattle.reed_solomon.proofs.evaluation.least_of.Goals as goal

pub loop-t-init : goal.loop-t-init
loop-t-init c = λ u lo hi.
    let e : u ≡ c.args.n = omega arith in
    ap (λ z. in_reach limits (c.args.k - 1) z c.args.n) e ∙ least.top_good limits c.args.n c.args.k (omega arith) (omega arith) (omega (arith, c.requires.high)) c.requires.low c.requires.within

pub returns-then-is_none : goal.returns-then-is_none
returns-then-is_none c =
    let t = c.loop-t.t in
    let k = c.loop-t.auto.t in
    let tk = c.loop-t-test.true in
    let back : c.loop-t.t - 1 + 1 ≡ c.loop-t.t = omega arith in
    back ∙
    least_here limits c.args.n c.args.k c.loop-t.t (omega arith) (omega arith) c.loop-t.invariant
    (λ u e lo. ap (λ z. in_reach limits (c.args.k - 1) z c.args.n) (let z : u ≡ c.loop-t.t - 1 = omega arith in z) ∙ sym (ap is_some c.counting.ensures) ∙ c.if-is_none.ensures)

pub returns : goal.returns
returns c =
    let k = c.loop-t.auto.t in
    least_here limits c.args.n c.args.k c.args.k (omega arith) c.requires.within
    (λ u lo hi. c.loop-t.invariant u (omega (arith, c.loop-t-test.false)) hi) (λ u e lo. absurd (omega arith))
