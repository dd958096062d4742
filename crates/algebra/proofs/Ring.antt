-- The ring laws as lemmas, and two sets of them that sort both sides of an equation.
-- A ring equation is then proved by `simp (ring, 𝓡)`, one with differences by `simp (signed, 𝓡)`.
use Rattle.std.proofs.Common.{◌≡◌, sym, ap, ◌∙◌}
use Rattle.algebra.specs.Ring.{CommRing, Field}

-- Rewrites by e in the place that f names, between two ring equations.
pub via : {R : Type 0} (f : R → R) {x y l r : R} → x ≡ y → l ≡ f x → f y ≡ r → l ≡ r
via f e p q = p ∙ ap f e ∙ q

module _ {R : Type 0} (𝓡 : CommRing R) where
  infixl 60 ◌⊕◌ ◌⊖◌
  infixl 70 ◌⊗◌
  open 𝓡.ops use {zero as 𝟘, one as 𝟙, add as ◌⊕◌, sub as ◌⊖◌, mul as ◌⊗◌}

  pub add_assoc : (a b c : R) → a ⊕ b ⊕ c ≡ a ⊕ (b ⊕ c)
  add_assoc = 𝓡.add_assoc

  pub add_comm : (a b : R) → a ⊕ b ≡ b ⊕ a
  add_comm = 𝓡.add_comm

  pub mul_assoc : (a b c : R) → a ⊗ b ⊗ c ≡ a ⊗ (b ⊗ c)
  mul_assoc = 𝓡.mul_assoc

  pub mul_comm : (a b : R) → a ⊗ b ≡ b ⊗ a
  mul_comm = 𝓡.mul_comm

  pub mul_add : (a b c : R) → a ⊗ (b ⊕ c) ≡ a ⊗ b ⊕ a ⊗ c
  mul_add = 𝓡.mul_add

  pub add_left_comm : (a b c : R) → a ⊕ (b ⊕ c) ≡ b ⊕ (a ⊕ c)
  add_left_comm a b c = sym (add_assoc a b c) ∙ ap (λ x. x ⊕ c) (add_comm a b) ∙ add_assoc b a c

  pub mul_left_comm : (a b c : R) → a ⊗ (b ⊗ c) ≡ b ⊗ (a ⊗ c)
  mul_left_comm a b c = sym (mul_assoc a b c) ∙ ap (λ x. x ⊗ c) (mul_comm a b) ∙ mul_assoc b a c

  pub add_mul : (a b c : R) → (a ⊕ b) ⊗ c ≡ a ⊗ c ⊕ b ⊗ c
  add_mul a b c = mul_comm (a ⊕ b) c ∙ mul_add c a b ∙ (λ i. mul_comm c a i ⊕ mul_comm c b i)

  pub add_zero : (a : R) → a ⊕ 𝟘 ≡ a
  add_zero = 𝓡.add_zero

  pub zero_add : (a : R) → 𝟘 ⊕ a ≡ a
  zero_add a = add_comm 𝟘 a ∙ add_zero a

  -- Minus a.
  pub neg : R → R
  neg a = 𝟘 ⊖ a

  pub add_neg : (a : R) → a ⊕ neg a ≡ 𝟘
  unfolding neg
  add_neg a = add_comm a (𝟘 ⊖ a) ∙ 𝓡.sub_add 𝟘 a

  -- What is added on the right may be taken away.
  pub add_cancel : (a b c : R) → a ⊕ c ≡ b ⊕ c → a ≡ b
  add_cancel a b c h = sym (drop a) ∙ ap (λ x. x ⊕ neg c) h ∙ drop b
    where
      drop : (x : R) → x ⊕ c ⊕ neg c ≡ x
      drop x = add_assoc x c (neg c) ∙ ap (λ y. x ⊕ y) (add_neg c) ∙ add_zero x

  pub mul_zero : (a : R) → a ⊗ 𝟘 ≡ 𝟘
  mul_zero a = add_cancel (a ⊗ 𝟘) 𝟘 (a ⊗ 𝟘) (sym (mul_add a 𝟘 𝟘) ∙ ap (λ x. a ⊗ x) (add_zero 𝟘) ∙ sym (zero_add (a ⊗ 𝟘)))

  pub zero_mul : (a : R) → 𝟘 ⊗ a ≡ 𝟘
  zero_mul a = mul_comm 𝟘 a ∙ mul_zero a

  pub mul_one : (a : R) → a ⊗ 𝟙 ≡ a
  mul_one = 𝓡.mul_one

  pub one_mul : (a : R) → 𝟙 ⊗ a ≡ a
  one_mul a = mul_comm 𝟙 a ∙ mul_one a

  pub ruleset ring = (add_zero, zero_add, mul_zero, zero_mul, mul_one, one_mul, mul_add, add_mul, mul_assoc, mul_comm, mul_left_comm, add_assoc, add_comm, add_left_comm)

  -- What gives a with b added to it is the difference.
  pub sub_of : (a b c : R) → c ⊕ b ≡ a → a ⊖ b ≡ c
  sub_of a b c e = add_cancel (a ⊖ b) c b (𝓡.sub_add a b ∙ sym e)

  pub sub_self : (a : R) → a ⊖ a ≡ 𝟘
  sub_self a = sub_of a a 𝟘 (zero_add a)

  pub sub_zero : (a b : R) → b ≡ 𝟘 → a ⊖ b ≡ a
  sub_zero a b e = ap (λ x. a ⊖ x) e ∙ sub_of a 𝟘 a (add_zero a)

  -- A difference as a sum, and how minus moves to the front.
  pub sub_neg : (a b : R) → a ⊖ b ≡ a ⊕ neg b
  sub_neg a b = sub_of a b (a ⊕ neg b) (add_assoc a (neg b) b ∙ ap (λ x. a ⊕ x) (add_comm (neg b) b ∙ add_neg b) ∙ add_zero a)

  neg_of : (a b : R) → a ⊕ b ≡ 𝟘 → neg b ≡ a
  unfolding neg
  neg_of a b e = sub_of 𝟘 b a e

  pub mul_neg : (a b : R) → a ⊗ neg b ≡ neg (a ⊗ b)
  mul_neg a b = sym (neg_of (a ⊗ neg b) (a ⊗ b) (sym (mul_add a (neg b) b) ∙ ap (λ x. a ⊗ x) (add_comm (neg b) b ∙ add_neg b) ∙ mul_zero a))

  pub neg_mul : (a b : R) → neg a ⊗ b ≡ neg (a ⊗ b)
  neg_mul a b = mul_comm (neg a) b ∙ mul_neg b a ∙ ap neg (mul_comm b a)

  pub neg_add : (a b : R) → neg (a ⊕ b) ≡ neg a ⊕ neg b
  neg_add a b = neg_of (neg a ⊕ neg b) (a ⊕ b) (regroup (neg a) (neg b) ∙ (λ i. add_neg a i ⊕ add_neg b i) ∙ add_zero 𝟘)
    where
      regroup : (x y : R) → x ⊕ y ⊕ (a ⊕ b) ≡ (a ⊕ x) ⊕ (b ⊕ y)
      regroup x y = simp ring

  pub ruleset signed = (ring, sub_neg, mul_neg, neg_mul, neg_add)

module _ {K : Type 0} (𝓕 : Field K) where
  infixl 60 ◌⊕◌
  infixl 70 ◌⊗◌
  open 𝓕 use {ring as 𝓚, same, inv}
  open 𝓚.ops use {zero as 𝟘, one as 𝟙, add as ◌⊕◌, mul as ◌⊗◌}

  -- A factor that is not zero may be taken away.
  pub divide : (a b d : K) → ¬ (d ≡ 𝟘) → a ⊗ d ≡ b ⊗ d → a ≡ b
  divide a b d n e = sym (back a) ∙ ap (λ x. x ⊗ inv d) e ∙ back b
    where
      back : (x : K) → x ⊗ d ⊗ inv d ≡ x
      back x = 𝓚.mul_assoc x d (inv d) ∙ ap (λ y. x ⊗ y) (𝓕.mul_inv d n) ∙ 𝓚.mul_one x

  pub cancel : (a b d : K) → a ⊗ d ≡ b ⊗ d → ¬ (a ≡ b) → d ≡ 𝟘
  cancel a b d e n = elim (same d 𝟘) [ yes h ↦ h | no h ↦ absurd (n (divide a b d h e)) ]

  -- A product of elements that are not zero is not zero.
  pub product_nonzero : (a b : K) → ¬ (a ≡ 𝟘) → ¬ (b ≡ 𝟘) → ¬ (a ⊗ b ≡ 𝟘)
  product_nonzero a b ha hb e = ha (divide a 𝟘 b hb (e ∙ sym (zero_mul 𝓚 b)))

  -- What gives one with a is a's inverse.
  pub inverse_unique : (a b : K) → a ⊗ b ≡ 𝟙 → b ≡ inv a
  inverse_unique a b e =
      divide b (inv a) a nonzero (𝓚.mul_comm b a ∙ e ∙ sym (𝓕.mul_inv a nonzero) ∙ 𝓚.mul_comm a (inv a))
    where
      nonzero : ¬ (a ≡ 𝟘)
      nonzero z = 𝓕.distinct (sym (zero_mul 𝓚 b) ∙ ap (λ x. x ⊗ b) (sym z) ∙ e)
