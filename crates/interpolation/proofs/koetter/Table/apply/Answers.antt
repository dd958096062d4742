use Rattle.std.proofs.Common.{ℕ, ◌<◌, ◌≢◌, length, ◌∙◌, subst, arith, length-set, get_or-set_other, get_or-set_same, below_more}
use Rattle.algebra.specs.CodeRecovery.{at}
use Rattle.interpolation.specs.declared.led.LedCurve.{LedCurve}
use Rattle.interpolation.specs.Stepped.{blank, led, Taken}
use Rattle.interpolation.proofs.koetter.Table.apply.Goals as goal
use Rattle.interpolation.proofs.koetter.Table.apply.Goals.{then-j-p, else-j-p}

pub loop-j-preserved : goal.loop-j-preserved
loop-j-preserved g c =
    let F = g.F.Field.means c.args.field.now in
    let bound = c.args.self.now.bound in
    let ds = c.args.discrepancies.now in
    let p = c.args.p in
    let j = c.loop-j.j in
    let cs = c.loop-j.self.curves in
    let old = c.loop-j.invariant in
    elim c.if-j-p.branch [
      | then-j-p w ↦ rw w.self-is (
          let next = w.mix.new.self in
          let lt : j < length cs = let n = old.size in omega arith in
          let other = λ (k : ℕ) (ne : k ≢ j). get_or-set_other cs j k next blank ne in
          record {
            taken = below_more _ _
                (λ k h ne. let q : k ≢ j = omega arith in rw get_or-set_other (old.taken k h ne))
                (λ ne. rw get_or-set_same (subst (λ (x : LedCurve). Taken F bound j (at ds p) (at ds j) (led c.args.self.now.curves p).curve.cells x next) (old.later j (omega arith)) w.mix.ensures));
            later = λ k h. other k (omega arith) ∙ old.later k (omega arith);
            pivot = other p (let ne = w.if-j-p.true in omega arith) ∙ old.pivot;
            bound = old.bound;
            size = length-set cs j next ∙ old.size;
          })
      | else-j-p w ↦ rw w.self-is record {
        taken = below_more _ _ old.taken (λ ne. absurd (ne w.if-j-p.false));
        later = λ k h. old.later k (omega arith);
        pivot = old.pivot;
        bound = old.bound;
        size = old.size;
      }
    ]
