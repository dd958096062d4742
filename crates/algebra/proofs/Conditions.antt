-- The order in which the conditions are met: pair by pair, in each the orders in y, and under each of these the orders in x, rising.
use Rattle.std.proofs.Common.{◌≡◌, ℕ, zero, suc, ◌-◌, ◌<◌, ◌⊎◌, refl, ap, ◌∙◌, inl, inr, arith}
use native.Mathlib.Decide.{dec_lt}
use Rattle.algebra.specs.Interpolation.{Conditions, Ready, Closed, OneMore, All, Upto, Column}

module _ {K : Type 0} (xs ys : ℕ → K) (r N : ℕ) where
  pub all_closed : Closed (All xs ys r N)
  all_closed a b zero w s = tt
  all_closed a b (suc u) w s = (s.0, s.1, s.2, s.3, let h = s.4 in omega arith)

module _ {K : Type 0} (S : Conditions K) (closed : Closed S) (a₀ b₀ : K) where
  pub upto_closed : (r k : ℕ) → Closed (Upto S a₀ b₀ r k)
  upto_closed r k a b zero w s = tt
  upto_closed r k a b (suc u) w (inl s) = inl (closed a b (suc u) w s)
  upto_closed r k a b (suc u) w (inr s) = inr (s.0, s.1, let h = s.2 in omega arith, s.3)

  pub column_closed : (w₀ h : ℕ) → Closed (Column S a₀ b₀ w₀ h)
  column_closed w₀ h a b zero w s = tt
  column_closed w₀ h a b (suc u) w (inl s) = inl (closed a b (suc u) w s)
  column_closed w₀ h a b (suc u) w (inr s) = inr (s.0, s.1, let l = s.2 in omega arith, s.3)

module _ {K : Type 0} (S : Conditions K) (a₀ b₀ : K) where
  pub column_ready : (w₀ h : ℕ) → Ready (Column S a₀ b₀ w₀ h) a₀ b₀ h w₀
  column_ready w₀ zero = tt
  column_ready w₀ (suc h) = inr (refl, refl, omega arith, refl)

  pub column_more : (w₀ h : ℕ) → OneMore (Column S a₀ b₀ w₀ h) a₀ b₀ h w₀ (Column S a₀ b₀ w₀ (suc h))
  column_more w₀ h a b u w (inl s) = inl (inl s)
  column_more w₀ h a b u w (inr s) = go (dec_lt u h)
    where
      go : Dec (u < h) → Column S a₀ b₀ w₀ h a b u w ⊎ ((a ≡ a₀) × (b ≡ b₀) × (u ≡ h) × (w ≡ w₀))
      go (yes l) = inl (inr (s.0, s.1, l, s.3))
      go (no l) = inr (s.0, s.1, let k = s.2 in omega arith, s.3)

  pub column_none : (w₀ : ℕ) (a b : K) (u w : ℕ) → Column S a₀ b₀ w₀ 0 a b u w → S a b u w
  column_none w₀ a b u w (inl s) = s
  column_none w₀ a b u w (inr s) = absurd (let h = s.2 in omega arith)

  pub upto_none : (r : ℕ) (a b : K) (u w : ℕ) → Upto S a₀ b₀ r 0 a b u w → S a b u w
  upto_none r a b u w (inl s) = s
  upto_none r a b u w (inr s) = absurd (let h = s.3 in omega arith)

  pub upto_more : (r k : ℕ) (a b : K) (u w : ℕ) → Upto S a₀ b₀ r (suc k) a b u w → Column (Upto S a₀ b₀ r k) a₀ b₀ k (r - k) a b u w
  upto_more r k a b u w (inl s) = inl (inl s)
  upto_more r k a b u w (inr s) = go (dec_lt w k)
    where
      go : Dec (w < k) → Column (Upto S a₀ b₀ r k) a₀ b₀ k (r - k) a b u w
      go (yes l) = inl (inr (s.0, s.1, s.2, l))
      go (no l) = let x = s.2 in let y = s.3 in inr (s.0, s.1, omega arith, omega arith)

module _ {K : Type 0} (xs ys : ℕ → K) (r : ℕ) where
  pub all_more : (N : ℕ) (a b : K) (u w : ℕ) → All xs ys r (suc N) a b u w → Upto (All xs ys r N) (xs N) (ys N) r r a b u w
  all_more N a b u w s = go (dec_lt s.0 N)
    where
      go : Dec (s.0 < N) → Upto (All xs ys r N) (xs N) (ys N) r r a b u w
      go (yes l) = inl (s.0, l, s.2, s.3, s.4)
      go (no l) =
          let e : s.0 ≡ N = let h = s.1 in omega arith in
          inr (s.2 ∙ ap xs e, s.3 ∙ ap ys e, s.4, let h = s.4 in omega arith)
