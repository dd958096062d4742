use Rattle.std.proofs.Common.{◌≡◌, ◌+◌, ◌-◌, ◌<◌, ◌≤◌, ◌∷◌, [], ◌++◌, Some, None, length, take, sym, refl, ap, ◌∙◌, subst, subst₂, IfSome, arith, rules}
use Rattle.interpolation.specs.Steps.{Light, Moved}
use Rattle.interpolation.specs.Walk.{Descent, Adds, cells_at, chosen}
use Rattle.interpolation.proofs.Orders.{upto, upto_none, upto_all}
use Rattle.interpolation.proofs.Descents.{leaf_held, low_light, adds_none, step_descent, step_none, sooner, held_root, held_over, held_not}
use Rattle.interpolation.proofs.walk.Search.+descend.Goals as goal
use Rattle.interpolation.proofs.walk.Search.+descend.Goals.{then-is_root+in_ok-used, else-is_root}

pub returns-then-depth-self-clause-held : goal.returns-then-depth-self-clause-held
returns-then-depth-self-clause-held g t c =
    let s = c.args.self.now in
    let h : c.args.depth ≤ length c.args.trail.now.prefix = search rules in
    leaf_held (g.F.Field.means s.field.now) s.t s.pairs.now s.k c.args.depth c.args.trail.now.prefix c.args.buf.now c.keep.new.buf c.args.used c.keep.result
    c.if-depth-self.true h c.keep.ensures.held

pub loop-root-init : goal.loop-root-init
loop-root-init g t c =
    let s = c.args.self.now in
    let F = g.F.Field.means s.field.now in (
      adds_none s.k _ c.args.buf.now c.args.used (ap (chosen F s.t s.pairs.now) (upto_none F.size (take c.args.depth c.args.trail.now.prefix) (s.k - c.args.depth - 1))),
      ap (take c.args.depth) c.lower-foot.ensures.prefix,
      c.requires.room,
      λ d _. refl,
    )

pub step-requires-clause-light : goal.step-requires-clause-light
step-requires-clause-light g t c =
    let s = c.args.self.now in
    let F = g.F.Field.means s.field.now in
    let lt : c.args.depth < s.k = omega (arith, c.requires.descent.deep, c.if-depth-self.false) in
    subst (Light F c.lower-foot.result.region) (sym (c.loop-root.invariant.3 c.args.depth (omega arith)))
    (low_light F (g.met.F.Field.lawful s.field.now) s.k s.t s.pairs.now c.args.region c.lower-foot.result.region c.args.depth (take c.args.depth c.args.trail.now.prefix)
    (cells_at c.args.trail.now.curves c.args.depth) (cells_at c.lower-foot.new.self.curves c.args.depth) c.requires.descent lt c.lower-foot.ensures.lowered)

pub descend-requires : goal.descend-requires
descend-requires g t c κs within =
    let s = c.args.self.now in
    let F = g.F.Field.means s.field.now in
    let ps = s.pairs.now in
    let depth = c.args.depth in
    let f = c.lower-foot.result in
    let new = cells_at c.step.new.self.curves (depth + 1) in
    let lt : depth < s.k = omega (arith, c.requires.descent.deep, c.if-depth-self.false) in (
      search rules,
      (
        search rules,
        (
          subst (λ q. Descent F s.k s.t ps q (depth + 1) (take (depth + 1) c.step.new.self.prefix) new)
              (sym c.lightened-next.ensures)
              (step_descent F (g.met.F.Field.lawful s.field.now) s.k s.t ps c.args.region f.region depth (take depth c.args.trail.now.prefix) (cells_at c.args.trail.now.curves depth)
              (cells_at c.lower-foot.new.self.curves depth) c.requires.descent lt c.lower-foot.ensures.lowered c.loop-root.root new (take (depth + 1) c.step.new.self.prefix)
              (omega (arith, c.size-root-end.ensures, c.loop-root-test.true))
              (λ h. subst (λ l. Moved F f.region c.loop-root.root l new) (c.loop-root.invariant.3 depth (omega arith)) (c.step.ensures.next h))
              (c.step.ensures.prefix ∙ ap (λ z. z ++ c.loop-root.root ∷ []) c.loop-root.invariant.1)),
          c.loop-root.invariant.2,
        ),
      ),
    )

pub returns-in_err-used-clause-front : goal.returns-in_err-used-clause-front
returns-in_err-used-clause-front g t c = sooner c.args.depth _ _ c.descend.ensures.front ∙ c.step.ensures.front ∙ c.loop-root.invariant.1

pub returns-in_err-used-clause-kept : goal.returns-in_err-used-clause-kept
returns-in_err-used-clause-kept g t c d h =
    c.descend.ensures.kept d (omega arith) ∙ c.step.ensures.kept d (omega arith) ∙ c.loop-root.invariant.3 d (omega arith) ∙ c.lower-foot.ensures.kept d h

pub returns-in_err-used-clause-held : goal.returns-in_err-used-clause-held
returns-in_err-used-clause-held g t c =
    let s = c.args.self.now in
    let F = g.F.Field.means s.field.now in
    let lt : c.args.depth < s.k = omega (arith, c.requires.descent.deep, c.if-depth-self.false) in
    let none : c.descend.result ≡ None = search rules in
    let same : c.from_residual.result ≡ None = search rules in
    subst (Adds s.k _ c.args.buf.now c.args.used c.descend.new.buf) (sym same)
    (held_over F s.k s.t s.pairs.now c.args.depth (take c.args.depth c.args.trail.now.prefix) c.loop-root.root c.args.buf.now c.loop-root.buf c.args.used c.loop-root.used
    c.loop-root.invariant.0 (take (c.args.depth + 1) c.step.new.self.prefix) c.descend.new.buf (c.step.ensures.prefix ∙ ap (λ z. z ++ c.loop-root.root ∷ []) c.loop-root.invariant.1)
    (omega (arith, c.size-root-end.ensures, c.loop-root-test.true)) lt (subst (Adds s.k _ c.loop-root.buf c.loop-root.used c.descend.new.buf) none c.descend.ensures.held))

pub loop-root-preserved : goal.loop-root-preserved
loop-root-preserved g t c =
    let s = c.args.self.now in
    let F = g.F.Field.means s.field.now in
    let L = g.met.F.Field.lawful s.field.now in
    let ps = s.pairs.now in
    let depth = c.args.depth in
    let p = take depth c.args.trail.now.prefix in
    let f = c.lower-foot.result in
    let lt : depth < s.k = omega (arith, c.requires.descent.deep, c.if-depth-self.false) in
    elim c.if-is_root.branch [
      | then-is_root+in_ok-used w ↦ (
        subst₂ (λ b n. Adds s.k (chosen F s.t ps (upto F.size p (s.k - depth - 1) (c.loop-root.root + 1))) c.args.buf.now c.args.used b (Some n)) (sym w.buf-is) (sym w.used-is)
            (held_root F s.k s.t ps depth p c.loop-root.root c.args.buf.now c.loop-root.buf c.args.used c.loop-root.used c.loop-root.invariant.0
            (take (depth + 1) w.step.new.self.prefix) w.descend.new.buf (Some w.in_ok-used.used) (w.step.ensures.prefix ∙ ap (λ z. z ++ c.loop-root.root ∷ []) c.loop-root.invariant.1)
            (subst (Adds s.k _ c.loop-root.buf c.loop-root.used w.descend.new.buf) w.in_ok-used.was w.descend.ensures.held)),
        ap (λ z. take depth z.prefix) w.trail-is ∙ sooner depth _ _ w.descend.ensures.front ∙ w.step.ensures.front ∙ c.loop-root.invariant.1,
        subst₂ (λ b n. n ≤ length b) (sym w.buf-is) (sym w.used-is) (subst (λ r. IfSome r (λ n. n ≤ length w.descend.new.buf)) w.in_ok-used.was w.descend.ensures.room),
        λ d h. ap (λ z. cells_at z.curves d) w.trail-is ∙ w.descend.ensures.kept d (omega arith) ∙ w.step.ensures.kept d h ∙ c.loop-root.invariant.3 d h,
      )
      | else-is_root w ↦ (
        subst₂ (λ b n. Adds s.k (chosen F s.t ps (upto F.size p (s.k - depth - 1) (c.loop-root.root + 1))) c.args.buf.now c.args.used b (Some n)) (sym w.buf-is) (sym w.used-is)
            (held_not F s.k s.t ps depth p c.loop-root.root c.args.buf.now c.loop-root.buf c.args.used c.loop-root.used c.loop-root.invariant.0
            (step_none F L s.k s.t ps c.args.region f.region depth p (cells_at c.args.trail.now.curves depth) (cells_at c.lower-foot.new.self.curves depth)
            c.requires.descent lt c.lower-foot.ensures.lowered f.coefficients f.used c.lower-foot.ensures.foot
            c.loop-root.root (omega (arith, c.size-root-end.ensures, c.loop-root-test.true)) (sym w.if-is_root.false ∙ c.is_root.ensures))),
        ap (λ z. take depth z.prefix) w.trail-is ∙ c.loop-root.invariant.1,
        subst₂ (λ b n. n ≤ length b) (sym w.buf-is) (sym w.used-is) c.loop-root.invariant.2,
        λ d h. ap (λ z. cells_at z.curves d) w.trail-is ∙ c.loop-root.invariant.3 d h,
      )
    ]

pub returns-clause-held : goal.returns-clause-held
returns-clause-held g t c =
    let s = c.args.self.now in
    let F = g.F.Field.means s.field.now in
    let p = take c.args.depth c.args.trail.now.prefix in
    let lt : c.args.depth < s.k = omega (arith, c.requires.descent.deep, c.if-depth-self.false) in
    let e : c.loop-root.root ≡ F.size = omega (arith, c.loop-root.auto.root-end, c.loop-root-test.false, c.size-root-end.ensures) in
    subst (λ z. Adds s.k (chosen F s.t s.pairs.now z) c.args.buf.now c.args.used c.loop-root.buf (Some c.loop-root.used))
    (ap (upto F.size p (s.k - c.args.depth - 1)) e ∙ upto_all F.size p (s.k - c.args.depth - 1) (s.k - c.args.depth) (omega arith))
    c.loop-root.invariant.0
