-- What a step of Kötter's method does to one curve: it meets the new condition, and its lead is where the step says.
use Rattle.std.proofs.Common.{◌≡◌, ℕ, zero, suc, ◌+◌, ◌*◌, ◌<◌, ◌≢◌, sym, refl, ap, ◌∙◌, ⊎_elim, arith}
use Rattle.algebra.specs.Ring.{Ops, Field}
use Rattle.algebra.specs.Curve.{Table, discrepancy}
use Rattle.algebra.specs.Interpolation.{key, Conditions, Ready, Closed, OneMore, Same, up, linear, mix, Good}
use Rattle.algebra.proofs.Ring.{zero_add, mul_zero, zero_mul, sub_self, sub_zero, product_nonzero}
use Rattle.algebra.proofs.Keys.{key_suc, key_less}
use Rattle.algebra.proofs.Discrepancies.{discrepancy_same, discrepancy_mix, discrepancy_below, discrepancy_linear}

module _ {K : Type 0} (O : Ops K) (X Y v : ℕ) where
  pub good_same : (S : Conditions K) (j i : ℕ) (c e : Table K) → i < X → j < Y → Same X Y e c → Good O X Y v S j i c → Good O X Y v S j i e
  good_same S j i c e hi hj s g = record {
    kept = λ a b u w q. discrepancy_same O X Y a b u w e c s ∙ g.kept a b u w q;
    led = λ z. g.led (sym (s i j hi hj) ∙ z);
    above = λ i' k h₁ h₂ o. s i' k h₁ h₂ ∙ g.above i' k h₁ h₂ o;
  }

  pub good_fewer : (S S' : Conditions K) (j i : ℕ) (c : Table K) → ((a b : K) (u w : ℕ) → S' a b u w → S a b u w) → Good O X Y v S j i c → Good O X Y v S' j i c
  good_fewer S S' j i c f g = record { kept = λ a b u w q. g.kept a b u w (f a b u w q); led = g.led; above = g.above }

  same_condition : (a b : K) (u w : ℕ) (a₀ b₀ : K) (u₀ w₀ : ℕ) (c : Table K) → (a ≡ a₀) × (b ≡ b₀) × (u ≡ u₀) × (w ≡ w₀) →
      discrepancy O X Y a b u w c ≡ discrepancy O X Y a₀ b₀ u₀ w₀ c
  same_condition a b u w a₀ b₀ u₀ w₀ c e = let p = e.0 in let q = e.1 in let r = e.2 in let s = e.3 in cc

  -- A curve that meets the new condition already.
  pub good_met : (S S' : Conditions K) (a b : K) (u w : ℕ) → OneMore S a b u w S' → (j i : ℕ) (c : Table K) →
      discrepancy O X Y a b u w c ≡ O.zero → Good O X Y v S j i c → Good O X Y v S' j i c
  good_met S S' a₀ b₀ u₀ w₀ more j i c z g = record {
    kept = λ a b u w q. ⊎_elim (λ s. g.kept a b u w s) (λ e. same_condition a b u w a₀ b₀ u₀ w₀ c e ∙ z) (more a b u w q);
    led = g.led;
    above = g.above;
  }

module _ {K : Type 0} (𝓕 : Field K) where
  infixl 60 ◌⊕◌ ◌⊖◌
  infixl 70 ◌⊗◌
  open 𝓕 use {ring as 𝓚}
  open 𝓚 use {ops as O}
  open 𝓚.ops use {zero as 𝟘, add as ◌⊕◌, sub as ◌⊖◌, mul as ◌⊗◌}

  zero_times : (a x : K) → x ≡ 𝟘 → a ⊗ x ≡ 𝟘
  zero_times a x e = ap (λ t. a ⊗ t) e ∙ mul_zero 𝓚 a

  mixed_zero : (d e x y : K) → x ≡ 𝟘 → y ≡ 𝟘 → d ⊗ x ⊖ e ⊗ y ≡ 𝟘
  mixed_zero d e x y p q = sub_zero 𝓚 _ _ (zero_times e y q) ∙ zero_times d x p

  -- A curve from which a multiple of the pivot is taken off.
  pub good_mixed : (X Y v : ℕ) (S S' : Conditions K) (a b : K) (u w : ℕ) → OneMore S a b u w S' → (j i p l : ℕ) (c g : Table K) → i < X → j < Y →
      key Y v l p < key Y v i j → Good O X Y v S j i c → Good O X Y v S p l g → discrepancy O X Y a b u w g ≢ 𝟘 →
      Good O X Y v S' j i (mix O (discrepancy O X Y a b u w g) c (discrepancy O X Y a b u w c) g)
  unfolding mix
  good_mixed X Y v S S' a₀ b₀ u₀ w₀ more j i p l c g hi hj lower gc gg off =
      let d = discrepancy O X Y a₀ b₀ u₀ w₀ g in
      let e = discrepancy O X Y a₀ b₀ u₀ w₀ c in
      record {
        kept = λ a b u w q. ⊎_elim
            (λ s. discrepancy_mix 𝓚 X Y a b u w d c e g ∙ mixed_zero d e _ _ (gc.kept a b u w s) (gg.kept a b u w s))
            (λ t. same_condition O X Y v a b u w a₀ b₀ u₀ w₀ _ t ∙ discrepancy_mix 𝓚 X Y a₀ b₀ u₀ w₀ d c e g ∙ ap (λ x. d ⊗ e ⊖ x) (𝓚.mul_comm e d) ∙ sub_self 𝓚 _)
            (more a b u w q);
        led = λ z. product_nonzero 𝓕 d (c i j) off gc.led (sym (sub_zero 𝓚 _ _ (zero_times e _ (gg.above i j hi hj lower))) ∙ z);
        above = λ i' k h₁ h₂ o. mixed_zero d e _ _ (gc.above i' k h₁ h₂ o) (gg.above i' k h₁ h₂ (omega arith));
      }

  lifted_above : (X Y v : ℕ) (a : K) (p l : ℕ) (c : Table K) → ((i' k : ℕ) → i' < X → k < Y → key Y v l p < key Y v i' k → c i' k ≡ 𝟘) →
      (i' k : ℕ) → i' < X → k < Y → key Y v (suc l) p < key Y v i' k → linear O a c i' k ≡ 𝟘
  unfolding linear up
  lifted_above X Y v a p l c h zero k h₁ h₂ o = let e = key_suc Y v l p in sub_zero 𝓚 _ _ (zero_times a _ (h 0 k h₁ h₂ (omega arith)))
  lifted_above X Y v a p l c h (suc i) k h₁ h₂ o =
      let e = key_suc Y v l p in
      let f = key_suc Y v i k in
      sub_zero 𝓚 _ _ (zero_times a _ (h (suc i) k h₁ h₂ (omega arith))) ∙ h i k (omega arith) h₂ (omega arith)

  below_zero : (X Y v : ℕ) (S : Conditions K) (j i : ℕ) (c : Table K) → Good O X Y v S j i c → (a b : K) (u w : ℕ) → Ready S a b u w → discrepancy_below 𝓚 X Y a b u w c ≡ 𝟘
  unfolding discrepancy_below
  below_zero X Y v S j i c g a b zero w r = refl
  below_zero X Y v S j i c g a b (suc u) w r = g.kept a b u w r

  both_zero : (x y : K) → x ≡ 𝟘 → y ≡ 𝟘 → x ⊕ y ≡ 𝟘
  both_zero x y p q = (λ i. p i ⊕ q i) ∙ zero_add 𝓚 𝟘

  -- The pivot times x - a.
  pub good_lifted : (X Y v : ℕ) (S S' : Conditions K) (a b : K) (u w : ℕ) → OneMore S a b u w S' → Closed S → Ready S a b u w → (p l : ℕ) (c : Table K) →
      p < Y → suc l + v * p < X → Good O X Y v S p l c → Good O X Y v S' p (suc l) (linear O a c)
  unfolding linear up
  good_lifted zero Y v S S' a₀ b₀ u₀ w₀ more closed ready p l c hp room g = absurd (omega arith)
  good_lifted (suc m) Y v S S' a₀ b₀ u₀ w₀ more closed ready p l c hp room g =
      let top : (j : ℕ) → j < Y → c m j ≡ 𝟘 = λ j h. g.above m j (omega arith) h (key_less Y v l p m j hp (omega arith)) in
      record {
        kept = λ a b u w q. ⊎_elim
            (λ s. discrepancy_linear 𝓚 m Y a b u w a₀ c top
            ∙ both_zero _ _ (zero_times (a ⊖ a₀) _ (g.kept a b u w s)) (below_zero (suc m) Y v S p l c g a b u w (closed a b u w s)))
            (λ t. same_condition O (suc m) Y v a b u w a₀ b₀ u₀ w₀ _ t
            ∙ discrepancy_linear 𝓚 m Y a₀ b₀ u₀ w₀ a₀ c top
            ∙ both_zero _ _ (ap (λ z. z ⊗ discrepancy O (suc m) Y a₀ b₀ u₀ w₀ c) (sub_self 𝓚 a₀) ∙ zero_mul 𝓚 _) (below_zero (suc m) Y v S p l c g a₀ b₀ u₀ w₀ ready))
            (more a b u w q);
        led = λ z. g.led (sym (sub_zero 𝓚 _ _ (zero_times a₀ _ (g.above (suc l) p (omega arith) hp (let e = key_suc Y v l p in omega arith)))) ∙ z);
        above = lifted_above (suc m) Y v a₀ p l c g.above;
      }
