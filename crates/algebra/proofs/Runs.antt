-- The run of Kötter's method over the pairs: how the invariant begins, goes on from condition to condition, and ends.
use Rattle.std.proofs.Common.{◌≡◌, ℕ, zero, suc, ◌+◌, ◌-◌, ◌*◌, ◌/◌, ◌<◌, ◌≤◌, cond, sym, refl, ap, ◌∙◌, subst, arith, eq-eqb, ne_eqb}
use Rattle.algebra.specs.Ring.{Ops, Field}
use Rattle.algebra.specs.Curve.{Table, discrepancy}
use Rattle.algebra.specs.Interpolation.{key, total, monomials, triangle, Conditions, All, Upto, Column, Same, y_power, Inv, PairsDone, ColumnsDone, PlacesDone, Step, Fitted}
use Rattle.algebra.proofs.Weights.{hasse_is}
use Rattle.algebra.proofs.Totals.{total_same, total_zero, triangle_is, all_dead}
use Rattle.algebra.proofs.Keys.{key_less}
use Rattle.algebra.proofs.Conditions.{all_closed, upto_closed, column_closed, column_ready, column_more, column_none, upto_none, upto_more, all_more}
use Rattle.algebra.proofs.Leads.{good_same}
use Rattle.algebra.proofs.Steps.{inv_fewer, step_none, step_one}

module _ {K : Type 0} (O : Ops K) where
  power_one : (j : ℕ) → y_power O j 0 j ≡ O.one
  unfolding y_power
  power_one j = ap (λ t. cond t O.one O.zero) (eq-eqb j j refl)

  -- Past its lead y^j has no terms.
  power_zero : (Y v j i k : ℕ) → key Y v 0 j < key Y v i k → y_power O j i k ≡ O.zero
  unfolding y_power
  power_zero Y v j zero k o = ap (λ t. cond t O.one O.zero) (ne_eqb k j (λ e.
      let o' : key Y v 0 j < key Y v 0 j = subst (λ t. key Y v 0 j < key Y v 0 t) e o in omega arith))
  power_zero Y v j (suc i) k o = refl

module _ {K : Type 0} (O : Ops K) (X Y v D r : ℕ) (xs ys : ℕ → K) where
  -- How far the run has come, on this table and these pairs.
  abbrev Pairs : (t : ℕ) (curves : ℕ → Table K) (lead : ℕ → ℕ) → Type 0
  Pairs = PairsDone O X Y v D r xs ys

  abbrev Columns : (t w : ℕ) (curves : ℕ → Table K) (lead : ℕ → ℕ) → Type 0
  Columns = ColumnsDone O X Y v D r xs ys

  abbrev Places : (t w u : ℕ) (curves : ℕ → Table K) (lead : ℕ → ℕ) → Type 0
  Places = PlacesDone O X Y v D r xs ys

  -- The table of the powers of y meets no condition yet.
  pub pairs_start : ¬ (O.zero ≡ O.one) → 0 < X → (curves : ℕ → Table K) (lead : ℕ → ℕ) → ((j : ℕ) → j < Y → lead j ≡ 0) → ((j : ℕ) → j < Y → Same X Y (curves j) (y_power O j)) →
      Pairs 0 curves lead
  unfolding PairsDone
  pairs_start distinct pos curves lead zeros powers = record {
    good = λ j l lv. rw (zeros j l) (good_same O X Y v (All xs ys r 0) j 0 (y_power O j) (curves j) pos l (powers j l) (record {
      kept = λ a b u w q. absurd (let h = q.1 in omega arith);
      led = λ z. distinct (sym z ∙ power_one O j);
      above = λ i k _ _ o. power_zero O Y v j i k o;
    }));
    count = let e = total_same Y (λ _. 0) lead zeros in let f = total_zero Y in omega arith;
  }

  pub columns_start : (t : ℕ) (curves : ℕ → Table K) (lead : ℕ → ℕ) → Pairs t curves lead → Columns t 0 curves lead
  unfolding PairsDone ColumnsDone total
  columns_start t curves lead h = inv_fewer O X Y v D _ _ _ _ curves lead (upto_none _ _ _ r) (omega arith) h

  pub places_start : (t w : ℕ) (curves : ℕ → Table K) (lead : ℕ → ℕ) → Columns t w curves lead → Places t w 0 curves lead
  unfolding ColumnsDone PlacesDone
  places_start t w curves lead h = inv_fewer O X Y v D _ _ _ _ curves lead (column_none _ _ _ w) (omega arith) h

  module _ (t w u : ℕ) where
    -- What is met when the orders below w in y are done.
    abbrev S : Conditions K
    S = Upto (All xs ys r t) (xs t) (ys t) r w

    onward : (curves : ℕ → Table K) (lead : ℕ → ℕ) → Inv O X Y v D (Column S (xs t) (ys t) w (suc u)) (suc (t * triangle r + total w (λ k. r - k) + u)) curves lead →
        Places t w (suc u) curves lead
    unfolding PlacesDone
    onward curves lead h = inv_fewer O X Y v D _ _ _ _ curves lead (λ a b u w q. q) (omega arith) h

    -- A condition that every live curve meets.
    pub places_idle : (curves : ℕ → Table K) (lead : ℕ → ℕ) → ((j : ℕ) → j < Y → lead j + v * j ≤ D → discrepancy O X Y (xs t) (ys t) u w (curves j) ≡ O.zero) →
        Places t w u curves lead → Places t w (suc u) curves lead
    unfolding PlacesDone
    places_idle curves lead met h = onward curves lead (step_none O X Y v D _ _ (xs t) (ys t) u w (column_more S _ _ w u) _ curves lead met h)

  pub columns_next : (t w : ℕ) (curves : ℕ → Table K) (lead : ℕ → ℕ) → Places t w (r - w) curves lead → Columns t (suc w) curves lead
  unfolding ColumnsDone PlacesDone total
  columns_next t w curves lead h = inv_fewer O X Y v D _ _ _ _ curves lead (upto_more _ _ _ r w) (omega arith) h

  pub pairs_next : (t : ℕ) (curves : ℕ → Table K) (lead : ℕ → ℕ) → Columns t r curves lead → Pairs (suc t) curves lead
  unfolding ColumnsDone PairsDone triangle
  pairs_next t curves lead h = inv_fewer O X Y v D _ _ _ _ curves lead (all_more xs ys r t) (omega arith) h

  -- The pigeonhole: where the monomials exceed the conditions, some curve is live.
  pub not_all_dead : (N : ℕ) (curves : ℕ → Table K) (lead : ℕ → ℕ) → Pairs N curves lead → N * r * (r + 1) / 2 < monomials Y v D →
      ((j : ℕ) → j < Y → D < lead j + v * j) → ⊥
  unfolding PairsDone
  not_all_dead N curves lead h more dead =
      let d = all_dead Y v D lead dead in
      let k = h.count in
      let e = ap (λ t. N * t) (triangle_is r) in
      omega arith

module _ {K : Type 0} (𝓕 : Field K) (X Y v D r : ℕ) (fits : D < X) (xs ys : ℕ → K) where
  open 𝓕 use {ring as 𝓚}
  open 𝓚 use {ops as O}

  -- A step at the next condition.
  pub places_step : (t w u p : ℕ) (curves : ℕ → Table K) (lead : ℕ → ℕ) (curves' : ℕ → Table K) (lead' : ℕ → ℕ) → Step O X Y v D (xs t) (ys t) u w p curves lead curves' lead' →
      PlacesDone O X Y v D r xs ys t w u curves lead → PlacesDone O X Y v D r xs ys t w (suc u) curves' lead'
  unfolding PlacesDone
  places_step t w u p curves lead curves' lead' s h =
      let S = Upto (All xs ys r t) (xs t) (ys t) r w in
      let closed = upto_closed (All xs ys r t) (all_closed xs ys r t) (xs t) (ys t) r w in
      onward O X Y v D r xs ys t w u curves' lead'
      (step_one 𝓕 X Y v D fits _ _ (xs t) (ys t) u w (column_more S _ _ w u) _ p curves lead curves' lead' s h (column_closed S closed _ _ w u) (column_ready S _ _ w u))

  -- At the end a live curve is what is wanted.
  pub live_fitted : (N j : ℕ) (curves : ℕ → Table K) (lead : ℕ → ℕ) → PairsDone O X Y v D r xs ys N curves lead → j < Y → lead j + v * j ≤ D →
      Fitted O X Y v D r N xs ys (curves j)
  unfolding PairsDone
  live_fitted N j curves lead h l lv =
      let g = h.good j l lv in
      record {
        some = (lead j, j, omega arith, l, g.led);
        within = λ i k h₁ h₂ o. g.above i k h₁ h₂ (key_less Y v (lead j) j i k l (omega arith));
        through = λ t lt u w s. hasse_is 𝓚 X Y (xs t) (ys t) u w (curves j) ∙ g.kept (xs t) (ys t) u w (t, lt, refl, refl, s);
      }
