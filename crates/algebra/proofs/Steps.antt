-- A step keeps the table's invariant.
use Rattle.std.proofs.Common.{◌≡◌, ℕ, suc, ◌+◌, ◌*◌, ◌<◌, ◌≤◌, ◌≢◌, sym, subst, ⊎_elim, arith}
use native.Mathlib.Decide.{ℕ_discrete}
use Rattle.algebra.specs.Ring.{Ops, Field}
use Rattle.algebra.specs.Curve.{Table, discrepancy}
use Rattle.algebra.specs.Interpolation.{key, Conditions, Ready, Closed, OneMore, linear, Good, Inv, Step}
use Rattle.algebra.proofs.Keys.{key_apart}
use Rattle.algebra.proofs.Leads.{good_same, good_fewer, good_met, good_mixed, good_lifted}
use Rattle.algebra.proofs.Totals.{total_bump}

module _ {K : Type 0} (O : Ops K) (X Y v D : ℕ) where
  -- What meets S meets fewer conditions too.
  pub inv_fewer : (S S' : Conditions K) (n n' : ℕ) (curves : ℕ → Table K) (lead : ℕ → ℕ) → ((a b : K) (u w : ℕ) → S' a b u w → S a b u w) → n ≡ n' →
      Inv O X Y v D S n curves lead → Inv O X Y v D S' n' curves lead
  inv_fewer S S' n n' curves lead f e h = record {
    good = λ j l lv. good_fewer O X Y v S S' j (lead j) (curves j) f (h.good j l lv);
    count = let k = h.count in omega arith;
  }

  -- Every live curve meets the condition already.
  pub step_none : (S S' : Conditions K) (a b : K) (u w : ℕ) → OneMore S a b u w S' → (n : ℕ) (curves : ℕ → Table K) (lead : ℕ → ℕ) →
      ((j : ℕ) → j < Y → lead j + v * j ≤ D → discrepancy O X Y a b u w (curves j) ≡ O.zero) →
      Inv O X Y v D S n curves lead → Inv O X Y v D S' (suc n) curves lead
  step_none S S' a b u w more n curves lead met h = record {
    good = λ j lt live. good_met O X Y v S S' a b u w more j (lead j) (curves j) (met j lt live) (h.good j lt live);
    count = let k = h.count in omega arith;
  }

module _ {K : Type 0} (𝓕 : Field K) (X Y v D : ℕ) (fits : D < X) where
  open 𝓕 use {ring as 𝓚}
  open 𝓚 use {ops as O}

  module _ (S S' : Conditions K) (a b : K) (u w : ℕ) (more : OneMore S a b u w S')
      (n p : ℕ) (curves : ℕ → Table K) (lead : ℕ → ℕ) (curves' : ℕ → Table K) (lead' : ℕ → ℕ)
      (s : Step O X Y v D a b u w p curves lead curves' lead') (h : Inv O X Y v D S n curves lead) where
    pivot : Closed S → Ready S a b u w → lead' p + v * p ≤ D → Good O X Y v S' p (lead' p) (curves' p)
    pivot closed ready live' =
        let e = s.moved in
        let room : suc (lead p) + v * p ≤ D = omega arith in
        rw e (good_same O X Y v S' p (suc (lead p)) (linear O a (curves p)) (curves' p) (omega arith) s.in_table (s.lifted room)
        (good_lifted 𝓕 X Y v S S' a b u w more closed ready p (lead p) (curves p) s.in_table (omega arith) (h.good p s.in_table s.live)))

    another : (j : ℕ) → j < Y → j ≢ p → lead' j + v * j ≤ D → Good O X Y v S' j (lead' j) (curves' j)
    another j lt ne live' =
        let e = s.stay j lt ne in
        let live : lead j + v * j ≤ D = omega arith in
        let g = h.good j lt live in
        let gp = h.good p s.in_table s.live in
        rw e (⊎_elim
        (λ t. good_same O X Y v S' j (lead j) (curves j) (curves' j) (omega arith) lt t.1 (good_met O X Y v S S' a b u w more j (lead j) (curves j) t.0 g))
        (λ t.
        let le = s.least j lt live t.0 in
        let apart : key Y v (lead p) p ≢ key Y v (lead j) j = λ q. ne (sym (key_apart Y v (lead p) p (lead j) j s.in_table lt q)) in
        let lower : key Y v (lead p) p < key Y v (lead j) j = omega arith in
        good_same O X Y v S' j (lead j) _ (curves' j) (omega arith) lt t.1
        (good_mixed 𝓕 X Y v S S' a b u w more j (lead j) p (lead p) (curves j) (curves p) (omega arith) lt lower g gp s.off))
        (s.others j lt ne live))

    pub step_one : Closed S → Ready S a b u w → Inv O X Y v D S' (suc n) curves' lead'
    step_one closed ready = record {
      good = λ j lt live. go j lt live (ℕ_discrete j p);
      count = let t = total_bump Y p lead lead' s.in_table s.moved s.stay in let k = h.count in omega arith;
    }
      where
        go : (j : ℕ) → j < Y → lead' j + v * j ≤ D → Dec (j ≡ p) → Good O X Y v S' j (lead' j) (curves' j)
        go j lt live (no ne) = another j lt ne live
        go j lt live (yes e) =
            let live' : lead' p + v * p ≤ D = subst (λ k. lead' k + v * k ≤ D) e live in
            subst (λ k. Good O X Y v S' k (lead' k) (curves' k)) (sym e) (pivot closed ready live')
