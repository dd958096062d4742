-- The derivatives are linear in the curve, and what the factor x - a does to them.
use Rattle.std.proofs.Common.{◌≡◌, ℕ, zero, suc, ◌<◌, sym, refl, ap, ◌∙◌}
use Rattle.algebra.specs.Ring.{Ops, CommRing}
use Rattle.algebra.specs.Curve.{Table, sum, weight, dot, discrepancy}
use Rattle.algebra.specs.Interpolation.{Same, up, linear, mix}
use Rattle.algebra.proofs.Ring.{ring, signed, neg, mul_zero}
use Rattle.algebra.proofs.Sums.{sum_ext, sum_zero, sum_add, sum_mul, sum_front}

module _ {K : Type 0} (O : Ops K) where
  pub dot_ext : (n : ℕ) (h f g : ℕ → K) → ((i : ℕ) → i < n → f i ≡ g i) → dot O n h f ≡ dot O n h g
  unfolding dot
  dot_ext n h f g e = sum_ext O n _ _ (λ i l. ap (O.mul (h i)) (e i l))

  pub discrepancy_same : (X Y : ℕ) (a b : K) (u w : ℕ) (c e : Table K) → Same X Y c e → discrepancy O X Y a b u w c ≡ discrepancy O X Y a b u w e
  unfolding discrepancy
  discrepancy_same X Y a b u w c e h = dot_ext Y _ _ _ (λ j l. dot_ext X _ _ _ (λ i k. h i j k l))

module _ {K : Type 0} (𝓚 : CommRing K) where
  infixl 60 ◌⊕◌ ◌⊖◌
  infixl 70 ◌⊗◌
  open 𝓚 use {ops as O}
  open 𝓚.ops use {zero as 𝟘, one as 𝟙, add as ◌⊕◌, sub as ◌⊖◌, mul as ◌⊗◌}

  -- Shorter names.
  abbrev Σ : ℕ → (ℕ → K) → K
  Σ = sum O

  abbrev · : ℕ → (ℕ → K) → (ℕ → K) → K
  · = dot O

  abbrev W : K → ℕ → ℕ → K
  W = weight O

  out : (h d f e g : K) → h ⊗ (d ⊗ f ⊕ e ⊗ g) ≡ d ⊗ (h ⊗ f) ⊕ e ⊗ (h ⊗ g)
  out h d f e g = simp (ring, 𝓚)

  -- Linearity: if k is d f + e g, so are the sums.
  dot_two : (n : ℕ) (h k f g : ℕ → K) (d e : K) → ((i : ℕ) → i < n → k i ≡ d ⊗ f i ⊕ e ⊗ g i) → · n h k ≡ d ⊗ · n h f ⊕ e ⊗ · n h g
  unfolding dot
  dot_two n h k f g d e is =
      sum_ext O n _ _ (λ i l. ap (λ x. h i ⊗ x) (is i l) ∙ out (h i) d (f i) e (g i))
      ∙ sum_add 𝓚 n _ _
      ∙ (λ t. sum_mul 𝓚 n d (λ i. h i ⊗ f i) t ⊕ sum_mul 𝓚 n e (λ i. h i ⊗ g i) t)

  minus : (d x e y : K) → d ⊗ x ⊖ e ⊗ y ≡ d ⊗ x ⊕ neg 𝓚 e ⊗ y
  minus d x e y = simp (signed, 𝓚)

  pub discrepancy_mix : (X Y : ℕ) (a b : K) (u w : ℕ) (d : K) (c : Table K) (e : K) (g : Table K) →
      discrepancy O X Y a b u w (mix O d c e g) ≡ d ⊗ discrepancy O X Y a b u w c ⊖ e ⊗ discrepancy O X Y a b u w g
  unfolding discrepancy mix
  discrepancy_mix X Y a b u w d c e g =
      dot_two Y _ _ _ _ d (neg 𝓚 e) (λ j l. dot_two X (W a u) _ (λ i. c i j) (λ i. g i j) d (neg 𝓚 e) (λ i k. minus d (c i j) e (g i j)))
      ∙ sym (minus d _ e _)

  -- The derivative of order u - 1, or zero.
  below : (X : ℕ) (a : K) (u : ℕ) (f : ℕ → K) → K
  below X a zero f = 𝟘
  below X a (suc u) f = · X (W a u) f

  -- A sum over x f, the last coefficient of f being zero.
  dot_up : (m : ℕ) (h f : ℕ → K) → f m ≡ 𝟘 → · (suc m) h (up O f) ≡ · (suc m) (λ i. h (suc i)) f
  unfolding dot up sum
  dot_up m h f top =
      sum_front 𝓚 m _
      ∙ ap (λ x. x ⊕ Σ m (λ i. h (suc i) ⊗ f i)) (mul_zero 𝓚 _)
      ∙ 𝓚.add_comm _ _
      ∙ ap (λ x. Σ m (λ i. h (suc i) ⊗ f i) ⊕ x) (sym (ap (λ x. h (suc m) ⊗ x) top ∙ mul_zero 𝓚 _))

  pascal_one : (a s t f : K) → (a ⊗ s ⊕ t) ⊗ f ≡ a ⊗ (s ⊗ f) ⊕ t ⊗ f
  pascal_one a s t f = simp (ring, 𝓚)

  -- Pascal's rule, summed.
  pascal : (m : ℕ) (a : K) (u : ℕ) (f : ℕ → K) → · m (λ i. W a u (suc i)) f ≡ a ⊗ · m (W a u) f ⊕ below m a u f
  unfolding dot weight below
  pascal m a zero f = sum_ext O m _ _ (λ i l. 𝓚.mul_assoc _ _ _) ∙ sum_mul 𝓚 m a _ ∙ sym (𝓚.add_zero _)
  pascal m a (suc u) f =
      sum_ext O m _ _ (λ i l. pascal_one a (W a (suc u) i) (W a u i) (f i))
      ∙ sum_add 𝓚 m _ _
      ∙ ap (λ x. x ⊕ Σ m (λ i. W a u i ⊗ f i)) (sum_mul 𝓚 m a _)

  once : (x e y : K) → x ⊖ e ⊗ y ≡ 𝟙 ⊗ x ⊕ neg 𝓚 e ⊗ y
  once x e y = simp (signed, 𝓚)

  gather : (a a' s t : K) → 𝟙 ⊗ (a ⊗ s ⊕ t) ⊕ neg 𝓚 a' ⊗ s ≡ (a ⊖ a') ⊗ s ⊕ 𝟙 ⊗ t
  gather a a' s t = simp (signed, 𝓚)

  dot_linear : (m : ℕ) (a : K) (u : ℕ) (a' : K) (f : ℕ → K) → f m ≡ 𝟘 →
      · (suc m) (W a u) (λ i. up O f i ⊖ a' ⊗ f i) ≡ (a ⊖ a') ⊗ · (suc m) (W a u) f ⊕ 𝟙 ⊗ below (suc m) a u f
  dot_linear m a u a' f top =
      dot_two (suc m) (W a u) _ (up O f) f 𝟙 (neg 𝓚 a') (λ i l. once (up O f i) a' (f i))
      ∙ ap (λ x. 𝟙 ⊗ x ⊕ neg 𝓚 a' ⊗ · (suc m) (W a u) f) (dot_up m (W a u) f top ∙ pascal (suc m) a u f)
      ∙ gather a a' _ _

  -- The derivative of order (u - 1, w), or zero.
  unfoldable pub discrepancy_below : (X Y : ℕ) (a b : K) (u w : ℕ) (c : Table K) → K
  discrepancy_below X Y a b zero w c = 𝟘
  discrepancy_below X Y a b (suc u) w c = discrepancy O X Y a b u w c

  below_is : (X Y : ℕ) (a b : K) (u w : ℕ) (c : Table K) → · Y (W b w) (λ j. below X a u (λ i. c i j)) ≡ discrepancy_below X Y a b u w c
  unfolding discrepancy below discrepancy_below dot
  below_is X Y a b zero w c = sum_zero 𝓚 Y _ (λ j l. mul_zero 𝓚 _)
  below_is X Y a b (suc u) w c = refl

  finish : (s t t' : K) → t ≡ t' → s ⊕ 𝟙 ⊗ t ≡ s ⊕ t'
  finish s t t' e = ap (λ x. s ⊕ 𝟙 ⊗ x) e ∙ simp (ring, 𝓚)

  -- The factor x - a', the last column of the curve being zero.
  pub discrepancy_linear : (m Y : ℕ) (a b : K) (u w : ℕ) (a' : K) (c : Table K) → ((j : ℕ) → j < Y → c m j ≡ 𝟘) →
      discrepancy O (suc m) Y a b u w (linear O a' c) ≡ (a ⊖ a') ⊗ discrepancy O (suc m) Y a b u w c ⊕ discrepancy_below (suc m) Y a b u w c
  unfolding discrepancy linear
  discrepancy_linear m Y a b u w a' c top =
      dot_two Y (W b w) _ _ _ (a ⊖ a') 𝟙 (λ j l. dot_linear m a u a' (λ i. c i j) (top j l))
      ∙ finish _ _ _ (below_is (suc m) Y a b u w c)
