-- Power series over a commutative ring are a commutative ring; elements as series, and the product with x.
use Rattle.std.proofs.Common.{◌≡◌, ℕ, zero, suc, sym, refl, ap, ◌∙◌}
use mathlib.Core.Path.{fun_ext}
use Rattle.algebra.specs.Ring.{CommRing}
use Rattle.algebra.specs.Series.{tail, smul, const, 𝕏, series}
use Rattle.algebra.proofs.Ring.{ring, add_left_comm, zero_mul, mul_zero, one_mul}

module _ {K : Type 0} (𝓚 : CommRing K) where
  infixl 60 ◌⊕◌
  infixl 70 ◌⊗◌
  open 𝓚 use {ops as O}
  open 𝓚.ops use {zero as 𝟘, one as 𝟙, add as ◌⊕◌, mul as ◌⊗◌}

  pub smul_right : (f g : ℕ → K) (n : ℕ) → smul O f g (suc n) ≡ f (suc n) ⊗ g 0 ⊕ smul O f (tail g) n
  smul_right f g zero = 𝓚.add_comm (f 0 ⊗ g 1) (f 1 ⊗ g 0)
  smul_right f g (suc n) =
      ap (λ x. f 0 ⊗ g (suc (suc n)) ⊕ x) (smul_right (tail f) g n)
      ∙ add_left_comm 𝓚 (f 0 ⊗ g (suc (suc n))) (f (suc (suc n)) ⊗ g 0) (smul O (tail f) (tail g) n)

  pub smul_comm : (f g : ℕ → K) (n : ℕ) → smul O f g n ≡ smul O g f n
  smul_comm f g zero = 𝓚.mul_comm (f 0) (g 0)
  smul_comm f g (suc n) = (λ i. 𝓚.mul_comm (f 0) (g (suc n)) i ⊕ smul_comm (tail f) g n i) ∙ sym (smul_right g f n)

  pub smul_add : (f g h : ℕ → K) (n : ℕ) → smul O f (λ m. g m ⊕ h m) n ≡ smul O f g n ⊕ smul O f h n
  smul_add f g h zero = 𝓚.mul_add (f 0) (g 0) (h 0)
  smul_add f g h (suc n) =
      ap (λ x. f 0 ⊗ (g (suc n) ⊕ h (suc n)) ⊕ x) (smul_add (tail f) g h n)
      ∙ step (f 0) (g (suc n)) (h (suc n)) (smul O (tail f) g n) (smul O (tail f) h n)
    where
      step : (a b c x y : K) → a ⊗ (b ⊕ c) ⊕ (x ⊕ y) ≡ (a ⊗ b ⊕ x) ⊕ (a ⊗ c ⊕ y)
      step a b c x y = simp (ring, 𝓚)

  add_smul : (f g h : ℕ → K) (n : ℕ) → smul O (λ m. f m ⊕ g m) h n ≡ smul O f h n ⊕ smul O g h n
  add_smul f g h n = smul_comm (λ m. f m ⊕ g m) h n ∙ smul_add h f g n ∙ (λ i. smul_comm h f n i ⊕ smul_comm h g n i)

  smul_scale : (c : K) (f g : ℕ → K) (n : ℕ) → smul O (λ m. c ⊗ f m) g n ≡ c ⊗ smul O f g n
  smul_scale c f g zero = 𝓚.mul_assoc c (f 0) (g 0)
  smul_scale c f g (suc n) =
      (λ i. 𝓚.mul_assoc c (f 0) (g (suc n)) i ⊕ smul_scale c (tail f) g n i)
      ∙ sym (𝓚.mul_add c (f 0 ⊗ g (suc n)) (smul O (tail f) g n))

  pub smul_assoc : (f g h : ℕ → K) (n : ℕ) → smul O (smul O f g) h n ≡ smul O f (smul O g h) n
  smul_assoc f g h zero = 𝓚.mul_assoc (f 0) (g 0) (h 0)
  smul_assoc f g h (suc n) =
      ap (λ x. f 0 ⊗ g 0 ⊗ h (suc n) ⊕ x)
      (add_smul (λ m. f 0 ⊗ g (suc m)) (smul O (tail f) g) h n
      ∙ (λ i. smul_scale (f 0) (tail g) h n i ⊕ smul_assoc (tail f) g h n i))
      ∙ step (f 0) (g 0) (h (suc n)) (smul O (tail g) h n) (smul O (tail f) (smul O g h) n)
    where
      step : (a b c x y : K) → a ⊗ b ⊗ c ⊕ (a ⊗ x ⊕ y) ≡ a ⊗ (b ⊗ c ⊕ x) ⊕ y
      step a b c x y = simp (ring, 𝓚)

  pub smul_one : (f : ℕ → K) (n : ℕ) → smul O f (const O 𝟙) n ≡ f n
  smul_one f zero = 𝓚.mul_one (f 0)
  smul_one f (suc n) = ap (λ x. f 0 ⊗ 𝟘 ⊕ x) (smul_one (tail f) n) ∙ step (f 0) (f (suc n))
    where
      step : (a b : K) → a ⊗ 𝟘 ⊕ b ≡ b
      step a b = simp (ring, 𝓚)

  -- The ring of power series.
  abbrev pub 𝓢 : CommRing (ℕ → K)
  𝓢 = record {
    ops = series O;
    add_assoc = λ f g h. fun_ext λ n. 𝓚.add_assoc (f n) (g n) (h n);
    add_comm = λ f g. fun_ext λ n. 𝓚.add_comm (f n) (g n);
    add_zero = λ f. fun_ext λ n. 𝓚.add_zero (f n);
    sub_add = λ f g. fun_ext λ n. 𝓚.sub_add (f n) (g n);
    mul_assoc = λ f g h. fun_ext λ n. smul_assoc f g h n;
    mul_comm = λ f g. fun_ext λ n. smul_comm f g n;
    mul_one = λ f. fun_ext λ n. smul_one f n;
    mul_add = λ f g h. fun_ext λ n. smul_add f g h n;
  }

  -- A product with a factor zero in it falls away.
  drop_left : (a b c : K) → a ≡ 𝟘 → a ⊗ b ⊕ c ≡ c
  drop_left a b c e = (λ i. e i ⊗ b ⊕ c) ∙ simp (ring, 𝓚)

  drop_right : (a b c : K) → b ≡ 𝟘 → a ⊗ b ⊕ c ≡ c
  drop_right a b c e = (λ i. a ⊗ e i ⊕ c) ∙ simp (ring, 𝓚)

  -- A product with a series whose constant coefficient is zero.
  pub low_left : (f g : ℕ → K) → f 0 ≡ 𝟘 → (n : ℕ) → smul O f g (suc n) ≡ smul O (tail f) g n
  low_left f g e n = drop_left (f 0) (g (suc n)) (smul O (tail f) g n) e

  pub low_right : (f g : ℕ → K) → g 0 ≡ 𝟘 → (n : ℕ) → smul O f g (suc n) ≡ smul O f (tail g) n
  low_right f g e n = smul_right f g n ∙ drop_right (f (suc n)) (g 0) (smul O f (tail g) n) e

  -- Elements as series.
  pub const_zero : const O 𝟘 ≡ (series O).zero
  const_zero = fun_ext λ n. at n
    where
      at : (n : ℕ) → const O 𝟘 n ≡ 𝟘
      at zero = refl
      at (suc n) = refl

  pub const_add : (a b : K) → const O (a ⊕ b) ≡ (series O).add (const O a) (const O b)
  const_add a b = fun_ext λ n. at n
    where
      at : (n : ℕ) → const O (a ⊕ b) n ≡ const O a n ⊕ const O b n
      at zero = refl
      at (suc n) = sym (𝓚.add_zero 𝟘)

  pub const_smul : (a : K) (g : ℕ → K) (n : ℕ) → smul O (const O a) g n ≡ a ⊗ g n
  const_smul a g zero = refl
  const_smul a g (suc n) = ap (λ x. a ⊗ g (suc n) ⊕ x) (λ i. zero_mul 𝓢 g i n) ∙ 𝓚.add_zero (a ⊗ g (suc n))

  pub const_mul : (a b : K) → const O (a ⊗ b) ≡ (series O).mul (const O a) (const O b)
  const_mul a b = fun_ext λ n. at n ∙ sym (const_smul a (const O b) n)
    where
      at : (n : ℕ) → const O (a ⊗ b) n ≡ a ⊗ const O b n
      at zero = refl
      at (suc n) = sym (mul_zero 𝓚 a)

  -- The product with x.
  pub x_mul : (g : ℕ → K) (n : ℕ) → smul O (𝕏 O) g (suc n) ≡ g n
  x_mul g n = low_left (𝕏 O) g refl n ∙ const_smul 𝟙 g n ∙ one_mul 𝓚 (g n)

  pub x_tail : (f : ℕ → K) → f 0 ≡ 𝟘 → f ≡ smul O (𝕏 O) (tail f)
  x_tail f e = fun_ext λ n. at n
    where
      at : (n : ℕ) → f n ≡ smul O (𝕏 O) (tail f) n
      at zero = e ∙ sym (zero_mul 𝓚 (f 1))
      at (suc n) = sym (x_mul (tail f) n)

  pub x_out : (s : ℕ → K) → smul O (𝕏 O) s ≡ (series O).zero → s ≡ (series O).zero
  x_out s e = fun_ext (λ n. sym (x_mul s n) ∙ (λ i. e i (suc n)))
