-- The run over the pairs: how the table's invariant begins, goes on and ends.
use Rattle.std.proofs.Common.{◌≡◌, ℕ, suc, ◌+◌, ◌-◌, ◌*◌, ◌/◌, ◌<◌, ◌≤◌, false, cond, eqb, List, length, get_or, sym, ap, ◌∙◌, subst, subst₂, ⊎_elim, add-one, arith, eq-eqb, ne_eqb}
use Rattle.std.proofs.lemmas.List.{get_or-map}
use Rattle.algebra.specs.Field.{Meaning, Laws, read, codes}
use Rattle.algebra.specs.Curve.{discrepancy}
use Rattle.algebra.specs.Interpolation.{key, total, triangle, monomials, All, Upto, PairsDone, ColumnsDone, PlacesDone, Fitted}
use Rattle.algebra.specs.CodeRecovery.{at, table, CodedTable}
use Rattle.algebra.proofs.FirstFound.{read_below, read_lt}
use Rattle.algebra.proofs.Elements.{decode, field}
use Rattle.algebra.proofs.Carried.{some, elements, all_alike, inv_up, fitted_down}
use Rattle.algebra.proofs.CodeRecovery.{code_step_keeps, code_run_ends}
use Rattle.algebra.proofs.Conditions.{column_more, column_none, upto_none, upto_more, all_more}
use Rattle.algebra.proofs.Keys.{key_less}
use Rattle.algebra.proofs.Runs.{live_fitted}
use Rattle.algebra.proofs.Steps.{inv_fewer, step_none}
use Rattle.algebra.proofs.Totals.{total_same, total_zero}
use Rattle.interpolation.specs.declared.curve.Bound.{Bound}
use Rattle.interpolation.specs.declared.led.LedCurve.{LedCurve}
use Rattle.interpolation.specs.declared.pairs.Pair.{Pair}
use Rattle.interpolation.specs.Pairs.{points, values}
use Rattle.interpolation.specs.Size.{columns, rows}
use Rattle.interpolation.specs.Stepped.{led, lead_degree, curves_of, lead_of, Bounded, Stepped, IsAt, PairsMet, ColumnsMet, PlacesMet, Fresh}

-- The pair at a place.
pub is_at : (ps : List Pair) (t : ℕ) (d : Pair) → t < length ps → IsAt ps t (get_or ps t d)
is_at ps t d h = (get_or-map (λ (p : Pair). p.point) ps t d 0 h, get_or-map (λ (p : Pair). p.value) ps t d 0 h)

module _ (F : Meaning) (L : Laws F) (bound : Bound) (r : ℕ) (ps : List Pair) where
  abbrev v : ℕ
  v = bound.weight

  abbrev D : ℕ
  D = bound.degree

  abbrev xs : List ℕ
  xs = points ps

  abbrev ys : List ℕ
  ys = values ps

  abbrev O : Rattle.algebra.specs.Ring.Ops ℕ
  O = codes F

  coded : (cs : List LedCurve) (j : ℕ) → CodedTable F (curves_of F cs j)
  unfolding curves_of
  coded cs j i k = read_lt F.size _ (some F L)

  -- The powers of y meet no condition yet.
  power_past : (j i k : ℕ) → i < columns → key rows v 0 j < key rows v i k → eqb (i + columns * k) (columns * j) ≡ false
  power_past j i k h o = ne_eqb _ _ (λ e.
      let q : k ≡ j = omega arith in
      let z : i ≡ 0 = omega arith in
      let o' : key rows v 0 j < key rows v 0 j = subst (λ t. key rows v 0 j < key rows v 0 t) q (subst (λ t. key rows v 0 j < key rows v t k) z o) in omega arith)

  pub pairs_none : (cs : List LedCurve) → Fresh cs → PairsMet F bound r ps 0 cs
  unfolding PairsDone curves_of lead_of
  pairs_none cs f = record {
    good = λ j l lv. rw (f.lead j l) (record {
      kept = λ a b u w q. absurd (let h = q.1 in omega arith);
      led = λ z.
          let one : read F.size (at (led cs j).curve.cells (0 + columns * j)) ≡ 1 =
          ap (read F.size) (f.power j l (0 + columns * j) (omega arith) ∙ ap (λ t. cond t 1 0) (eq-eqb _ _ (omega arith))) ∙ read_below F.size 1 L.two in
          let e : ◌≡◌ {A = ℕ} 0 1 = sym z ∙ one in omega arith;
      above = λ i k h₁ h₂ o. ap (read F.size) (f.power j l (i + columns * k) (omega arith) ∙ ap (λ t. cond t 1 0) (power_past j i k h₁ o)) ∙ read_below F.size 0 (some F L);
    });
    count = let e = total_same rows (λ _. 0) (lead_of cs) f.lead in let g = total_zero rows in omega arith;
  }

  pub columns_none : (t : ℕ) (cs : List LedCurve) → PairsMet F bound r ps t cs → ColumnsMet F bound r ps t 0 cs
  unfolding PairsDone ColumnsDone total
  columns_none t cs h = inv_fewer O columns rows v D _ _ _ _ (curves_of F cs) (lead_of cs) (upto_none _ _ _ r) (omega arith) h

  pub places_none : (t w : ℕ) (cs : List LedCurve) → ColumnsMet F bound r ps t w cs → PlacesMet F bound r ps t w 0 cs
  unfolding ColumnsDone PlacesDone
  places_none t w cs h = inv_fewer O columns rows v D _ _ _ _ (curves_of F cs) (lead_of cs) (column_none _ _ _ w) (omega arith) h

  -- Live curves have no coefficient above their lead.
  pub bounded : (t w u : ℕ) (cs : List LedCurve) → PlacesMet F bound r ps t w u cs → Bounded F bound cs
  unfolding PlacesDone Bounded lead_of
  bounded t w u cs h j l lv i k hi hk o = (h.good j l lv).above i k hi hk (key_less rows v (lead_of cs j) j i k l o)

  idle : (t w u : ℕ) (cs : List LedCurve) → ((j : ℕ) → j < rows → lead_degree bound cs j ≤ D → discrepancy O columns rows (at xs t) (at ys t) u w (curves_of F cs j) ≡ 0) →
      PlacesMet F bound r ps t w u cs → PlacesMet F bound r ps t w (suc u) cs
  unfolding PlacesDone lead_of
  idle t w u cs met h = inv_fewer O columns rows v D _ _ _ _ (curves_of F cs) (lead_of cs) (λ a b u w q. q) (omega arith)
      (step_none O columns rows v D _ _ (at xs t) (at ys t) u w (column_more (Upto (All (at xs) (at ys) r t) (at xs t) (at ys t) r w) _ _ w u) _ (curves_of F cs) (lead_of cs) met h)

  -- A step at the next condition.
  pub places_more : (t w u : ℕ) (pair : Pair) (cs cs' : List LedCurve) → IsAt ps t pair → Stepped F bound pair.point pair.value u w cs cs' → PlacesMet F bound r ps t w u cs → PlacesMet F bound r ps t w (u + 1) cs'
  places_more t w u pair cs cs' here s h = rw add-one (⊎_elim
      (λ q. subst (λ (x : List LedCurve). PlacesMet F bound r ps t w (suc u) x) (sym q.0) (idle t w u cs q.1 h))
      (λ q. code_step_keeps F L columns D bound.low rows v r t w u q.0 (at xs) (at ys) (curves_of F cs) (lead_of cs) (curves_of F cs') (lead_of cs') (coded cs) (coded cs') q.1 h)
      (subst₂ (λ x y. Stepped F bound x y u w cs cs') (sym here.0) (sym here.1) s))

  pub columns_more : (t w : ℕ) (cs : List LedCurve) → PlacesMet F bound r ps t w (r - w) cs → ColumnsMet F bound r ps t (w + 1) cs
  unfolding ColumnsDone PlacesDone total
  columns_more t w cs h = rw add-one (inv_fewer O columns rows v D _ _ _ _ (curves_of F cs) (lead_of cs) (upto_more _ _ _ r w) (omega arith) h)

  pub pairs_more : (t : ℕ) (cs : List LedCurve) → ColumnsMet F bound r ps t r cs → PairsMet F bound r ps (t + 1) cs
  unfolding ColumnsDone PairsDone triangle
  pairs_more t cs h = rw add-one (inv_fewer O columns rows v D _ _ _ _ (curves_of F cs) (lead_of cs) (all_more (at xs) (at ys) r t) (omega arith) h)

  -- At the end a live curve is fitted,
  pub fitted : (cs : List LedCurve) (j : ℕ) → PairsMet F bound r ps (length ps) cs → j < rows → lead_degree bound cs j ≤ D →
      Fitted O columns rows v D r (length ps) (at xs) (at ys) (table F columns (led cs j).curve.cells)
  unfolding PairsDone curves_of lead_of
  fitted cs j h l lv =
      fitted_down F L columns rows v D r (length ps) (at xs) (at ys) (curves_of F cs j) (coded cs j)
      (live_fitted (field F L) columns rows v D r bound.low (λ t. decode F L (at xs t)) (λ t. decode F L (at ys t)) (length ps) j (λ j. elements F L (curves_of F cs j)) (lead_of cs)
      (inv_up F L columns rows v D _ _ (all_alike F L (at xs) (at ys) r (length ps)) _ (curves_of F cs) (lead_of cs) (coded cs) h) l lv)

  -- and some curve is live.
  pub not_all_dead : (cs : List LedCurve) → PairsMet F bound r ps (length ps) cs → length ps * r * (r + 1) / 2 < monomials rows v D →
      ((j : ℕ) → j < rows → D < lead_degree bound cs j) → ⊥
  unfolding lead_of
  not_all_dead cs h more dead =
      let e = (code_run_ends F L r (length ps) columns rows v D (at xs) (at ys) (curves_of F cs) (lead_of cs) (coded cs) bound.low h more).live in
      let d = dead e.0 e.1 in
      let l = e.2 in
      omega arith
