-- Synthetic division by x - a, and roots with their orders: a polynomial with more roots than its length allows is zero.
use Rattle.std.proofs.Common.{◌≡◌, ℕ, zero, suc, ◌-◌, ◌*◌, ◌≤◌, List, [], ◌∷◌, length, sym, refl, ap, ◌∙◌, subst, not-suc-le-zero, mul-zero, arith}
use Rattle.algebra.specs.Ring.{Ops, CommRing}
use Rattle.algebra.specs.Lists.{Each, Distinct}
use Rattle.algebra.specs.Series.{ev, AllZero}
use Rattle.algebra.proofs.Ring as Ring
use Rattle.algebra.proofs.Ring.{via, ring}

module _ {R : Type 0} (O : Ops R) where
  infixl 60 ◌⊕◌
  infixl 70 ◌⊗◌
  open O use {zero as 𝟘, add as ◌⊕◌, mul as ◌⊗◌}

  -- The values at a of the suffixes of a list, the longest first.
  abbrev pub tops : R → List R → List R
  tops a [] = []
  tops a (c ∷ p) = (c ⊕ a ⊗ ev O p a) ∷ tops a p

  -- Division by x - a: the quotient. The remainder is the value at a.
  abbrev pub div : R → List R → List R
  div a [] = []
  div a (c ∷ p) = tops a p

  -- The point a is a root of order r at least: r divisions by x - a leave no remainder.
  abbrev pub Order : R → ℕ → List R → Type 0
  Order a zero p = Unit {0}
  Order a (suc r) p = (ev O p a ≡ 𝟘) × Order a r (div a p)

module _ {R : Type 0} (𝓡 : CommRing R) where
  infixl 60 ◌⊕◌
  infixl 70 ◌⊗◌
  open 𝓡 use {ops as O}
  open 𝓡.ops use {zero as 𝟘, one as 𝟙, add as ◌⊕◌, mul as ◌⊗◌}

  swap_step : (a b c h s t : R) → a ⊗ h ⊕ b ⊗ s ≡ b ⊗ h ⊕ a ⊗ t
      → a ⊗ ((c ⊕ b ⊗ s) ⊕ a ⊗ h) ⊕ b ⊗ (c ⊕ b ⊗ s) ≡ b ⊗ ((c ⊕ b ⊗ s) ⊕ a ⊗ h) ⊕ a ⊗ (c ⊕ a ⊗ t)
  swap_step a b c h s t e = via (λ x. a ⊗ x ⊕ (a ⊗ c ⊕ b ⊗ (c ⊕ b ⊗ s))) e (simp (ring, 𝓡)) (simp (ring, 𝓡))

  swap : (a b : R) (p : List R) → a ⊗ ev O (tops O b p) a ⊕ b ⊗ ev O p b ≡ b ⊗ ev O (tops O b p) a ⊕ a ⊗ ev O p a
  swap a b [] = 𝓡.add_comm (a ⊗ 𝟘) (b ⊗ 𝟘)
  swap a b (c ∷ p) = swap_step a b c (ev O (tops O b p) a) (ev O p b) (ev O p a) (swap a b p)

  -- Divided by x - a and by x - b, in either order, a polynomial leaves the same.
  ev_sym : (a b : R) (p : List R) → ev O (tops O b p) a ≡ ev O (tops O a p) b
  ev_sym a b [] = refl
  ev_sym a b (c ∷ p) =
      via (λ x. c ⊕ x) (swap a b p) (simp (ring, 𝓡)) (simp (ring, 𝓡))
      ∙ ap (λ x. c ⊕ a ⊗ ev O p a ⊕ b ⊗ x) (ev_sym a b p)

  tops_comm : (a b : R) (p : List R) → tops O a (tops O b p) ≡ tops O b (tops O a p)
  tops_comm a b [] = refl
  tops_comm a b (c ∷ p) = λ i. ev_sym a b (c ∷ p) i ∷ tops_comm a b p i

  div_comm : (a b : R) (p : List R) → div O a (div O b p) ≡ div O b (div O a p)
  div_comm a b [] = refl
  div_comm a b (c ∷ []) = refl
  div_comm a b (c ∷ d ∷ p) = tops_comm a b p

  -- The division: p(b) = p(a) + (b - a) q(b), where q is the quotient by x - a.
  pub ev_div : (a b : R) (p : List R) → ev O p b ⊕ a ⊗ ev O (div O a p) b ≡ ev O p a ⊕ b ⊗ ev O (div O a p) b
  ev_div a b [] = simp (ring, 𝓡)
  ev_div a b (c ∷ p) = step (ev O (tops O a p) b) (ev O p a) (ev O p b) (swap b a p)
    where
      step : (h s t : R) → b ⊗ h ⊕ a ⊗ s ≡ a ⊗ h ⊕ b ⊗ t → (c ⊕ b ⊗ t) ⊕ a ⊗ h ≡ (c ⊕ a ⊗ s) ⊕ b ⊗ h
      step h s t e = via (λ x. c ⊕ x) (sym e) (simp (ring, 𝓡)) (simp (ring, 𝓡))

  ev_zero : (a : R) (p : List R) → AllZero O p → ev O p a ≡ 𝟘
  ev_zero a [] t = refl
  ev_zero a (c ∷ p) t = (λ i. t.0 i ⊕ a ⊗ ev_zero a p t.1 i) ∙ simp (ring, 𝓡)

  head_zero : (a c e : R) → c ⊕ a ⊗ e ≡ 𝟘 → e ≡ 𝟘 → c ≡ 𝟘
  head_zero a c e h k = via (λ x. c ⊕ a ⊗ x) (sym k) (simp (ring, 𝓡)) h

  tops_zero : (a : R) (p : List R) → AllZero O (tops O a p) → AllZero O p
  tops_zero a [] t = tt
  tops_zero a (c ∷ p) t =
      let r : AllZero O p = tops_zero a p t.1 in
      (head_zero a c (ev O p a) t.0 (ev_zero a p r), r)

  -- A polynomial is zero if its quotient and its remainder are.
  div_zero : (a : R) (p : List R) → ev O p a ≡ 𝟘 → AllZero O (div O a p) → AllZero O p
  div_zero a [] e t = tt
  div_zero a (c ∷ p) e t =
      let r : AllZero O p = tops_zero a p t in
      (head_zero a c (ev O p a) e (ev_zero a p r), r)

  -- The quotient after r divisions by x - a.
  abbrev divs : R → ℕ → List R → List R
  divs a zero p = p
  divs a (suc r) p = divs a r (div O a p)

  divs_zero : (a : R) (r : ℕ) (p : List R) → Order O a r p → AllZero O (divs a r p) → AllZero O p
  divs_zero a zero p o t = t
  divs_zero a (suc r) p o t = div_zero a p o.0 (divs_zero a r (div O a p) o.1 t)

  length_tops : (a : R) (p : List R) → length (tops O a p) ≡ length p
  length_tops a [] = refl
  length_tops a (c ∷ p) = ap suc (length_tops a p)

  length_div : (a : R) (p : List R) → length (div O a p) ≡ length p - 1
  length_div a [] = refl
  length_div a (c ∷ p) = length_tops a p ∙ omega arith

  length_divs : (a : R) (r : ℕ) (p : List R) → length (divs a r p) ≡ length p - r
  length_divs a zero p = omega arith
  length_divs a (suc r) p = length_divs a r (div O a p) ∙ omega (arith, length_div a p)

  -- In a ring where a factor that is not zero may be taken away, as in a field and in the series over it.
  module _ (cancel : (a b d : R) → a ⊗ d ≡ b ⊗ d → ¬ (a ≡ b) → d ≡ 𝟘) where
    -- Another root is a root of the quotient, with its order.
    root_div : (a b : R) (p : List R) → ¬ (a ≡ b) → ev O p a ≡ 𝟘 → ev O p b ≡ 𝟘 → ev O (div O a p) b ≡ 𝟘
    root_div a b p n ha hb =
        let d = ev O (div O a p) b in
        cancel a b d (sym (Ring.zero_add 𝓡 (a ⊗ d)) ∙ (λ i. sym hb i ⊕ a ⊗ d) ∙ ev_div a b p ∙ (λ i. ha i ⊕ b ⊗ d) ∙ Ring.zero_add 𝓡 (b ⊗ d)) n

    order_div : (a b : R) (r : ℕ) (p : List R) → ¬ (a ≡ b) → ev O p a ≡ 𝟘 → Order O b r p → Order O b r (div O a p)
    order_div a b zero p n e o = tt
    order_div a b (suc r) p n e o = (
      root_div a b p n e o.0,
      subst (Order O b r) (div_comm a b p) (order_div a b r (div O b p) n (root_div b a p (λ q. n (sym q)) o.0 e) o.1),
    )

    order_divs : (a b : R) (s r : ℕ) (p : List R) → ¬ (a ≡ b) → Order O a s p → Order O b r p → Order O b r (divs a s p)
    order_divs a b zero r p n oa ob = ob
    order_divs a b (suc s) r p n oa ob = order_divs a b s r (div O a p) n oa.1 (order_div a b r p n oa.0 ob)

    all_divs : (a : R) (r : ℕ) (p : List R) (bs : List R) → Order O a r p → Each (λ b. ¬ (a ≡ b)) bs
        → Each (λ b. Order O b r p) bs → Each (λ b. Order O b r (divs a r p)) bs
    all_divs a r p [] o n t = tt
    all_divs a r p (b ∷ bs) o n t = (order_divs a b r r p n.0 o t.0, all_divs a r p bs o n.1 t.1)

    -- With t different roots of order r, a polynomial of at most r t coefficients is zero:
    -- each root takes r coefficients off, and the others stay roots of the quotient.
    pub vanish : (ps : List R) (r : ℕ) (p : List R) → Distinct ps → Each (λ a. Order O a r p) ps → length p ≤ r * length ps → AllZero O p
    vanish [] r [] d o l = tt
    vanish [] r (c ∷ p) d o l = absurd (not-suc-le-zero (rw mul-zero at l))
    vanish (a ∷ ps) r p d o l =
        divs_zero a r p o.0
        (vanish ps r (divs a r p) d.1 (all_divs a r p ps o.0 d.0 o.1)
        (omega (arith, length_divs a r p, l)))
