-- From codes to elements and back: what a code stands for carries curves, conditions and steps along,
-- and a code below the size that stands for zero is zero.
use Rattle.std.proofs.Common.{◌≡◌, ℕ, zero, suc, ◌+◌, ◌<◌, ◌≤◌, Bool, true, false, cond, eqb, List, [], ◌∷◌, map, sym, refl, ap, ◌∙◌, ap₂, inl, inr, ⊎_elim, arith}
use mathlib.Core.Path.{fun_ext}
use Rattle.std.proofs.lemmas.Bool.{eqb-true}
use Rattle.algebra.specs.Ring.{Ops}
use Rattle.algebra.specs.Field.{Meaning, Laws, codes}
use Rattle.algebra.specs.Polynomial.{value}
use Rattle.algebra.specs.Series.{ev, poly, series, coefficients}
use Rattle.algebra.specs.Curve.{Table, sum, hasse, dot, discrepancy, Through, DegreeBelow, Nonzero, row, ZeroAt, Lies}
use Rattle.algebra.specs.Interpolation.{Conditions, All, Upto, Column, mix, Inv, Step, Fitted}
use Rattle.algebra.specs.Recovery.{one_if, agreed}
use Rattle.algebra.specs.CodeRecovery.{Coded, CodedTable, at, passed}
use Rattle.algebra.proofs.Elements.{Element, decode, field, code_decode, decode_sum, decode_difference, decode_product, decode_zero, decode_one}
use Rattle.algebra.proofs.Values.{by_horner}
use Rattle.algebra.proofs.Homomorphism.{Hom, image, hom_ev, hom_series, hom_coefficients, hom_row, hom_hasse, hom_discrepancy, hom_linear, hom_mix}

module _ (F : Meaning) (L : Laws F) where
  -- The operations on codes; the elements, their operations, and the element that a code stands for.
  abbrev pub C : Ops ℕ
  C = codes F

  abbrev pub K : Type 0
  K = Element F.size

  abbrev pub P : Ops (Element F.size)
  P = (field F L).ring.ops

  abbrev pub δ : ℕ → Element F.size
  δ = decode F L

  pub decode_hom : Hom C P δ
  decode_hom = record { on_zero = decode_zero F L; on_one = decode_one F L; on_add = decode_sum F L; on_sub = decode_difference F L; on_mul = decode_product F L }

  -- The curve of the elements.
  abbrev pub elements : Table ℕ → Table (Element F.size)
  elements = image decode_hom

  pub some : 0 < F.size
  some = let h = L.two in omega arith

  -- Codes below the size are told apart by what they stand for.
  pub same_code : (a b : ℕ) → a < F.size → b < F.size → δ a ≡ δ b → a ≡ b
  same_code a b ha hb e = sym (code_decode F L a ha) ∙ ap (λ (x : K). x.code) e ∙ code_decode F L b hb

  pub zero_code : (n : ℕ) → n < F.size → δ n ≡ P.zero → n ≡ 0
  zero_code n h e = same_code n 0 h some (e ∙ sym (decode_zero F L))

  pub code_zero : (n : ℕ) → n ≡ 0 → δ n ≡ P.zero
  code_zero n e = ap δ e ∙ decode_zero F L

  -- Polynomials of codes are told apart by their elements.
  pub tell : (f g : List ℕ) → Coded F f → Coded F g → map δ f ≡ map δ g → f ≡ g
  tell f g a b e = sym (back f a) ∙ ap (map (λ (x : K). x.code)) e ∙ back g b
    where
      back : (f : List ℕ) → Coded F f → map (λ (x : K). x.code) (map δ f) ≡ f
      back [] t = refl
      back (c ∷ f) t = λ i. code_decode F L c t.0 i ∷ back f t.1 i

  -- Values, and how often a polynomial passes through the pairs.
  pub value_is : (f : List ℕ) (x : ℕ) → δ (value F f x) ≡ ev P (map δ f) (δ x)
  value_is f x = ap δ (sym (by_horner F L f x)) ∙ hom_ev decode_hom f x

  counted : {Q : Type 0} (d : Dec Q) (b : Bool) (m n : ℕ) → (b ≡ true → Q) → m ≤ n → m + cond b 1 0 ≤ n + one_if d
  counted (yes q) true m n h l = omega arith
  counted (yes q) false m n h l = omega arith
  counted (no q) true m n h l = absurd (q (h refl))
  counted (no q) false m n h l = omega arith

  pub passed_agreed : (f xs ys : List ℕ) (n : ℕ) → passed F f xs ys n ≤ agreed (field F L) (map δ f) (λ t. δ (at xs t)) (λ t. δ (at ys t)) n
  passed_agreed f xs ys zero = omega arith
  passed_agreed f xs ys (suc n) =
      counted ((field F L).same (ev P (map δ f) (δ (at xs n))) (δ (at ys n))) (eqb (value F f (at xs n)) (at ys n)) (passed F f xs ys n) _
      (λ e. sym (value_is f (at xs n)) ∙ ap δ (eqb-true _ _ e)) (passed_agreed f xs ys n)

  -- Polynomials on a curve.
  series_is : (X Y : ℕ) (c : Table ℕ) (f : List ℕ) (i : ℕ) →
      δ (poly (series C) Y (row C X c) (coefficients C f) i) ≡ poly (series P) Y (row P X (elements c)) (coefficients P (map δ f)) i
  series_is X Y c f i =
      hom_series decode_hom Y (row C X c) (coefficients C f) i
      ∙ ap₂ (λ p y. poly (series P) Y p y i) (fun_ext (λ j. fun_ext (hom_row decode_hom X c j))) (fun_ext (hom_coefficients decode_hom f))

  series_below : (Y : ℕ) (p : ℕ → ℕ → ℕ) (y : ℕ → ℕ) (i : ℕ) → poly (series C) Y p y i < F.size
  series_below zero p y i = some
  series_below (suc Y) p y i = L.sum_below _ _

  pub lies_up : (X Y : ℕ) (c : Table ℕ) (f : List ℕ) → Lies C X Y c f → Lies P X Y (elements c) (map δ f)
  unfolding ZeroAt
  lies_up X Y c f z = fun_ext (λ i. sym (series_is X Y c f i) ∙ code_zero _ (λ k. z k i))

  pub lies_down : (X Y : ℕ) (c : Table ℕ) (f : List ℕ) → Lies P X Y (elements c) (map δ f) → Lies C X Y c f
  unfolding ZeroAt
  lies_down X Y c f z = fun_ext (λ i. zero_code _ (series_below Y _ _ i) (series_is X Y c f i ∙ (λ k. z k i)))

  -- Degrees and multiplicities.
  pub degree_up : (X Y v m : ℕ) (c : Table ℕ) → DegreeBelow C X Y v m c → DegreeBelow P X Y v m (elements c)
  degree_up X Y v m c low i j hi hj o = code_zero (c i j) (low i j hi hj o)

  pub degree_down : (X Y v m : ℕ) (c : Table ℕ) → CodedTable F c → DegreeBelow P X Y v m (elements c) → DegreeBelow C X Y v m c
  degree_down X Y v m c coded low i j hi hj o = zero_code (c i j) (coded i j) (low i j hi hj o)

  pub nonzero_up : (X Y : ℕ) (c : Table ℕ) → CodedTable F c → Nonzero C X Y c → Nonzero P X Y (elements c)
  nonzero_up X Y c coded n = (n.0, n.1, n.2, n.3, λ e. n.4 (zero_code _ (coded n.0 n.1) e))

  sum_below : (n : ℕ) (f : ℕ → ℕ) → sum C n f < F.size
  unfolding sum
  sum_below zero f = some
  sum_below (suc n) f = L.sum_below _ _

  pub through_up : (X Y r N : ℕ) (xs ys : ℕ → ℕ) (c : Table ℕ) → Through C X Y r N xs ys c → Through P X Y r N (λ t. δ (xs t)) (λ t. δ (ys t)) (elements c)
  through_up X Y r N xs ys c h t l u w s = sym (hom_hasse decode_hom X Y (xs t) (ys t) u w c) ∙ code_zero _ (h t l u w s)

  pub fitted_down : (X Y v D r N : ℕ) (xs ys : ℕ → ℕ) (c : Table ℕ) → CodedTable F c →
      Fitted P X Y v D r N (λ t. δ (xs t)) (λ t. δ (ys t)) (elements c) → Fitted C X Y v D r N xs ys c
  unfolding hasse
  fitted_down X Y v D r N xs ys c coded h =
      let n = h.some in
      record {
        some = (n.0, n.1, n.2, n.3, λ e. n.4 (code_zero _ e));
        within = degree_down X Y v (suc D) c coded h.within;
        through = λ t l u w s. zero_code _ (sum_below Y _) (hom_hasse decode_hom X Y (xs t) (ys t) u w c ∙ h.through t l u w s);
      }

  -- The discrepancies.
  discrepancy_is : (X Y : ℕ) (a b u w : ℕ) (c : Table ℕ) → δ (discrepancy C X Y a b u w c) ≡ discrepancy P X Y (δ a) (δ b) u w (elements c)
  discrepancy_is = hom_discrepancy decode_hom

  met_up : (X Y : ℕ) (a b u w : ℕ) (c : Table ℕ) → discrepancy C X Y a b u w c ≡ 0 → discrepancy P X Y (δ a) (δ b) u w (elements c) ≡ P.zero
  met_up X Y a b u w c e = sym (discrepancy_is X Y a b u w c) ∙ code_zero _ e

  met_down : (X Y : ℕ) (a b u w : ℕ) (c : Table ℕ) → discrepancy P X Y (δ a) (δ b) u w (elements c) ≡ P.zero → discrepancy C X Y a b u w c ≡ 0
  unfolding discrepancy dot
  met_down X Y a b u w c e = zero_code _ (sum_below Y _) (discrepancy_is X Y a b u w c ∙ e)

  -- Conditions on codes and the same conditions on elements.
  pub record Alike (S : Conditions ℕ) (T : Conditions (Element F.size)) : Type 0 where
    pub into : (a b u w : ℕ) → S a b u w → T (δ a) (δ b) u w
    pub from : (a b : Element F.size) (u w : ℕ) → T a b u w → (a' : ℕ) × (b' : ℕ) × (a ≡ δ a') × (b ≡ δ b') × S a' b' u w

  pub all_alike : (xs ys : ℕ → ℕ) (r N : ℕ) → Alike (All xs ys r N) (All (λ t. δ (xs t)) (λ t. δ (ys t)) r N)
  all_alike xs ys r N = record {
    into = λ a b u w s. (s.0, s.1, ap δ s.2, ap δ s.3, s.4);
    from = λ a b u w s. (xs s.0, ys s.0, s.2, s.3, (s.0, s.1, refl, refl, s.4));
  }

  pub upto_alike : (S : Conditions ℕ) (T : Conditions (Element F.size)) → Alike S T → (a₀ b₀ r k : ℕ) → Alike (Upto S a₀ b₀ r k) (Upto T (δ a₀) (δ b₀) r k)
  upto_alike S T h a₀ b₀ r k = record {
    into = λ a b u w s. ⊎_elim (λ q. inl (h.into a b u w q)) (λ q. inr (ap δ q.0, ap δ q.1, q.2, q.3)) s;
    from = λ a b u w s. ⊎_elim (λ q. let e = h.from a b u w q in (e.0, e.1, e.2, e.3, inl e.4)) (λ q. (a₀, b₀, q.0, q.1, inr (refl, refl, q.2, q.3))) s;
  }

  pub column_alike : (S : Conditions ℕ) (T : Conditions (Element F.size)) → Alike S T → (a₀ b₀ w₀ k : ℕ) → Alike (Column S a₀ b₀ w₀ k) (Column T (δ a₀) (δ b₀) w₀ k)
  column_alike S T h a₀ b₀ w₀ k = record {
    into = λ a b u w s. ⊎_elim (λ q. inl (h.into a b u w q)) (λ q. inr (ap δ q.0, ap δ q.1, q.2, q.3)) s;
    from = λ a b u w s. ⊎_elim (λ q. let e = h.from a b u w q in (e.0, e.1, e.2, e.3, inl e.4)) (λ q. (a₀, b₀, q.0, q.1, inr (refl, refl, q.2, q.3))) s;
  }

  -- The invariant of the interpolation.
  module _ (X Y v D : ℕ) (S : Conditions ℕ) (T : Conditions (Element F.size)) (alike : Alike S T) (n : ℕ) (curves : ℕ → Table ℕ) (lead : ℕ → ℕ) (coded : (j : ℕ) → CodedTable F (curves j)) where
    pub inv_up : Inv C X Y v D S n curves lead → Inv P X Y v D T n (λ j. elements (curves j)) lead
    inv_up h = record {
      good = λ j l lv. let g = h.good j l lv in record {
        kept = λ a b u w q.
            let e = alike.from a b u w q in
            ap₂ (λ a b. discrepancy P X Y a b u w (elements (curves j))) e.2 e.3 ∙ met_up X Y e.0 e.1 u w (curves j) (g.kept e.0 e.1 u w e.4);
        led = λ z. g.led (zero_code _ (coded j (lead j) j) z);
        above = λ i k h₁ h₂ o. code_zero _ (g.above i k h₁ h₂ o);
      };
      count = h.count;
    }

    pub inv_down : Inv P X Y v D T n (λ j. elements (curves j)) lead → Inv C X Y v D S n curves lead
    inv_down h = record {
      good = λ j l lv. let g = h.good j l lv in record {
        kept = λ a b u w q. met_down X Y a b u w (curves j) (g.kept (δ a) (δ b) u w (alike.into a b u w q));
        led = λ z. g.led (code_zero _ z);
        above = λ i k h₁ h₂ o. zero_code _ (coded j i k) (g.above i k h₁ h₂ o);
      };
      count = h.count;
    }

  -- A step of the interpolation.
  pub step_up : (X Y v D a b u w p : ℕ) (curves : ℕ → Table ℕ) (lead : ℕ → ℕ) (curves' : ℕ → Table ℕ) (lead' : ℕ → ℕ)
      → Step C X Y v D a b u w p curves lead curves' lead' → Step P X Y v D (δ a) (δ b) u w p (λ j. elements (curves j)) lead (λ j. elements (curves' j)) lead'
  step_up X Y v D a b u w p curves lead curves' lead' s = record {
    in_table = s.in_table;
    live = s.live;
    off = λ z. s.off (met_down X Y a b u w (curves p) z);
    least = λ j l lv ne. s.least j l lv (λ z. ne (met_up X Y a b u w (curves j) z));
    moved = s.moved;
    stay = s.stay;
    lifted = λ l i k h₁ h₂. ap δ (s.lifted l i k h₁ h₂) ∙ hom_linear decode_hom a (curves p) i k;
    others = λ j l ne lv. ⊎_elim
        (λ t. inl (met_up X Y a b u w (curves j) t.0, λ i k h₁ h₂. ap δ (t.1 i k h₁ h₂)))
        (λ t. inr (
          (λ z. t.0 (met_down X Y a b u w (curves j) z)),
          λ i k h₁ h₂.
              ap δ (t.1 i k h₁ h₂) ∙ hom_mix decode_hom _ (curves j) _ (curves p) i k
              ∙ ap₂ (λ d e. mix P d (elements (curves j)) e (elements (curves p)) i k) (discrepancy_is X Y a b u w (curves p)) (discrepancy_is X Y a b u w (curves j)),
        ))
        (s.others j l ne lv);
  }
