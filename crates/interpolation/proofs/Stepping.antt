-- What the code does to its table is a step of the method.
use Rattle.std.proofs.Common.{◌≡◌, ℕ, zero, suc, ◌+◌, ◌*◌, ◌<◌, ◌≤◌, ◌≢◌, List, sym, refl, ap, ◌∙◌, ap₂, inl, inr, Some, None, arith}
use native.Mathlib.Decide.{ℕ_discrete, dec_lt, dec_le}
use Rattle.algebra.specs.Field.{Meaning, Laws, read, codes}
use Rattle.algebra.specs.Curve.{discrepancy, DegreeBelow}
use Rattle.algebra.specs.Interpolation.{key, Same, up, linear, mix}
use Rattle.algebra.specs.CodeRecovery.{at, table}
use Rattle.algebra.proofs.FirstFound.{read_below, read_lt}
use Rattle.algebra.proofs.Carried.{some}
use Rattle.interpolation.specs.declared.curve.Bound.{Bound}
use Rattle.interpolation.specs.declared.led.LedCurve.{LedCurve}
use Rattle.interpolation.specs.Size.{columns, rows}
use Rattle.interpolation.specs.Weighed.{Weighed}
use Rattle.interpolation.specs.Region.{width, cell, mixed_cell, lifted_cell, Changed}
use Rattle.interpolation.specs.Stepped.{led, lead_degree, key_of, Valued, Chosen, Applied, curves_of, lead_of, Bounded, Stepped}
use Rattle.interpolation.proofs.Padding.{product_read, product_zero, difference_zero}

module _ (F : Meaning) (L : Laws F) where
  difference_read : (a b : ℕ) → F.difference a b ≡ F.difference (read F.size a) b
  difference_read a b =
      L.difference_reads a b ∙ ap (λ x. F.difference x (read F.size b)) (sym (read_below F.size _ (read_lt F.size a (some F L)))) ∙ sym (L.difference_reads (read F.size a) b)

  nothing : (d e x y : ℕ) → x ≡ 0 → y ≡ 0 → F.difference (F.product d x) (F.product e y) ≡ 0
  nothing d e x y p q = ap₂ (λ x y. F.difference x y) (ap (F.product d) p ∙ product_zero F L d) (ap (F.product e) q ∙ product_zero F L e) ∙ difference_zero F L

  module _ (v D : ℕ) (l l' : List ℕ) where
    -- A curve of weighted degree D at most, from which a multiple of another such curve is taken off.
    mixed_same : (d e : ℕ) (g : List ℕ) → DegreeBelow (codes F) columns rows v (suc D) (table F columns l) → DegreeBelow (codes F) columns rows v (suc D) (table F columns g) →
        Changed v D rows (mixed_cell F d l e g) l l' → Same columns rows (table F columns l') (mix (codes F) d (table F columns l) e (table F columns g))
    unfolding mix mixed_cell
    mixed_same d e g low low' c i j hi hj = elim (dec_lt i (width v D j)) [
      | yes b ↦ ap (read F.size) (c.inside i j hj b) ∙ read_below F.size _ (L.difference_below _ _) ∙ ap₂ (λ x y. F.difference x y) (product_read F L d _) (product_read F L e _)
      | no b ↦ ap (read F.size) (c.outside i j hi hj (λ _. omega arith)) ∙ low i j hi hj (omega arith)
          ∙ sym (nothing d e _ _ (low i j hi hj (omega arith)) (low' i j hi hj (omega arith)))
    ]

    -- A curve of weighted degree below D, multiplied by x - a.
    lifted_same : (a : ℕ) → DegreeBelow (codes F) columns rows v D (table F columns l) →
        Changed v D rows (lifted_cell F a l) l l' → Same columns rows (table F columns l') (linear (codes F) a (table F columns l))
    unfolding linear lifted_cell up
    lifted_same a low c i j hi hj = elim (dec_lt i (width v D j)) [
      | yes b ↦ ap (read F.size) (c.inside i j hj b) ∙ read_below F.size _ (L.difference_below _ _) ∙ ap (F.difference _) (product_read F L a _) ∙ shifted i
      | no b ↦ ap (read F.size) (c.outside i j hi hj (λ _. omega arith)) ∙ low i j hi hj (omega arith)
          ∙ sym (ap₂ (λ x y. F.difference x y) (gone i hi (omega arith)) (ap (F.product a) (low i j hi hj (omega arith)) ∙ product_zero F L a) ∙ difference_zero F L)
    ]
      where
        shifted : (i : ℕ) {y : ℕ} → F.difference (up (codes F) (λ k. cell l k j) i) y ≡ F.difference (up (codes F) (λ k. table F columns l k j) i) y
        shifted zero = refl
        shifted (suc i) = difference_read _ _

        gone : (i : ℕ) → i < columns → suc D ≤ i + v * j → up (codes F) (λ k. table F columns l k j) i ≡ 0
        gone zero h o = refl
        gone (suc i) h o = low i j (omega arith) hj (omega arith)

  -- A curve that fails is live.
  pub fails_live : (bound : Bound) (wx wy : List ℕ) (c : LedCurve) (j r : ℕ) → Valued F bound wx wy c j r → r ≢ 0 → c.lead + bound.weight * j ≤ bound.degree
  fails_live bound wx wy c j r h off = elim (dec_le (c.lead + bound.weight * j) bound.degree) [ yes q ↦ q | no q ↦ absurd (off (h.dead (omega arith))) ]

  module _ (bound : Bound) (a b u w : ℕ) (wx wy : List ℕ) (hx : Weighed F a u (bound.degree + 1) wx) (hy : Weighed F b w rows wy) (cs : List LedCurve) (ds : List ℕ) (bounded : Bounded F bound cs)
      (given : (j : ℕ) → j < rows → Valued F bound wx wy (led cs j) j (at ds j)) where
    -- A live curve is of its lead's weighted degree at most, and so of every higher one.
    within : (j : ℕ) → j < rows → lead_degree bound cs j ≤ bound.degree → (m : ℕ) → lead_degree bound cs j < m → DegreeBelow (codes F) columns rows bound.weight m (table F columns (led cs j).curve.cells)
    unfolding Bounded curves_of lead_of
    within j h lv m up i k hi hk o = bounded j h lv i k hi hk (omega arith)

    is : (j : ℕ) → j < rows → lead_degree bound cs j ≤ bound.degree → at ds j ≡ discrepancy (codes F) columns rows a b u w (table F columns (led cs j).curve.cells)
    is j h lv = (given j h).live lv a b u w (λ i o. hx i (omega arith)) hy (within j h lv _ (omega arith))

    pub step_none_made : Chosen bound cs ds rows None → Stepped F bound a b u w cs cs
    unfolding curves_of lead_of
    step_none_made c = inl (refl, λ j h lv. sym (is j h lv) ∙ c.none refl j h)

    -- The pivot's weighted degree is not above that of a curve that fails.
    lower : (p j : ℕ) → j < rows → key_of bound cs p ≤ key_of bound cs j → lead_degree bound cs p < suc (lead_degree bound cs j)
    lower p j h o = omega arith

    pub step_one_made : (p : ℕ) (cs' : List LedCurve) → Chosen bound cs ds rows (Some p) → Applied F bound a p ds cs cs' → Stepped F bound a b u w cs cs'
    unfolding curves_of lead_of key
    step_one_made p cs' c s =
        let lt = c.low in
        let live = fails_live bound wx wy (led cs p) p (at ds p) (given p lt) c.off in
        inr (
          p,
          record {
            in_table = lt;
            live = live;
            off = λ z. c.off (is p lt live ∙ z);
            least = λ j h lv ne. c.least j h (λ z. ne (sym (is j h lv) ∙ z));
            moved = s.lead;
            stay = λ j h ne. (s.others j h ne).lead;
            lifted = λ room.
                let e = s.lead in
                lifted_same bound.weight (lead_degree bound cs' p) (led cs p).curve.cells (led cs' p).curve.cells a (within p lt live (lead_degree bound cs' p) (omega arith)) (s.lifted (omega arith));
            others = λ j h ne lv. elim (ℕ_discrete (at ds j) 0) [
              | yes z ↦ inl (sym (is j h lv) ∙ z, λ i k _ _. ap (λ (x : LedCurve). table F columns x.curve.cells i k) ((s.others j h ne).idle z))
              | no z ↦ inr (
                (λ e. z (is j h lv ∙ e)),
                λ i k hi hk. mixed_same bound.weight (lead_degree bound cs j) (led cs j).curve.cells (led cs' j).curve.cells (at ds p) (at ds j) (led cs p).curve.cells (within j h lv _ (omega arith)) (within p lt live _ (lower p j h (c.least j h z))) ((s.others j h ne).busy z) i k hi hk
                    ∙ ap₂ (λ x y. mix (codes F) x (table F columns (led cs j).curve.cells) y (table F columns (led cs p).curve.cells) i k) (is p lt live) (is j h lv),
              )
            ];
          },
        )
