-- Taylor's expansion: on a curve of multiplicity r at a point of the graph of f, c(x, f(x)) has a root of order r there.
use Rattle.std.proofs.Common.{◌≡◌, ℕ, zero, suc, ◌+◌, ◌<◌, List, [], ◌∷◌, map, sym, refl, ap, ◌∙◌, subst, arith}
use mathlib.Core.Path.{fun_ext}
use Rattle.algebra.specs.Ring.{CommRing}
use Rattle.algebra.specs.Series.{ev, tail, const, 𝕏}
use Rattle.algebra.proofs.Ring as Ring
use Rattle.algebra.proofs.Ring.{via, ring}
use Rattle.algebra.proofs.Lists.{map_map}
use Rattle.algebra.proofs.Series.{𝓢, low_left, low_right, const_zero, const_add, const_mul, x_mul}
use Rattle.algebra.proofs.Division.{tops, div, Order}
use Rattle.algebra.proofs.Hasse.{derivative, derivative₂, derivative_ev, derivative_div, derivative_order}
use Rattle.algebra.proofs.Composition.{comp, ev_series, ev₂, ev_series_comp}

-- Ring equations that the inductions below cite.
module _ {R : Type 0} (𝓡 : CommRing R) where
  infixl 60 ◌⊕◌
  infixl 70 ◌⊗◌
  open 𝓡 use {ops as O}
  open 𝓡.ops use {zero as 𝟘, one as 𝟙, add as ◌⊕◌, mul as ◌⊗◌}

  times_step : (a e c m t k n : R) → k ≡ c ⊕ m → n ≡ a ⊗ k → (a ⊕ e) ⊗ (c ⊕ (m ⊕ e ⊗ t)) ≡ n ⊕ e ⊗ (k ⊕ (a ⊕ e) ⊗ t)
  times_step a e c m t k n p q =
      via (λ x. (a ⊕ e) ⊗ (x ⊕ e ⊗ t)) (sym p) (simp (ring, 𝓡)) (via (λ x. x ⊕ e ⊗ (k ⊕ (a ⊕ e) ⊗ t)) (sym q) (simp (ring, 𝓡)) refl)

  times_zero : (s e k : R) → k ≡ 𝟘 → s ⊗ 𝟘 ≡ k ⊕ e ⊗ 𝟘
  times_zero s e k p = via (λ x. x ⊕ e ⊗ 𝟘) (sym p) (simp (ring, 𝓡)) refl

  taylor_step : (c m k x e t : R) → x ≡ m ⊕ e ⊗ t → k ≡ c ⊕ m → c ⊕ x ≡ k ⊕ e ⊗ t
  taylor_step c m k x e t p q = (λ i. c ⊕ p i) ∙ via (λ x. x ⊕ e ⊗ t) (sym q) (simp (ring, 𝓡)) refl

  rows_step : (q x k e b y c d : R) → q ≡ k ⊕ e ⊗ b → x ≡ c ⊕ e ⊗ d → q ⊕ y ⊗ x ≡ (k ⊕ y ⊗ c) ⊕ e ⊗ (b ⊕ y ⊗ d)
  rows_step q x k e b y c d p r = (λ i. p i ⊕ y ⊗ r i) ∙ simp (ring, 𝓡)

  first_zero : (a b : R) → a ≡ 𝟘 → a ⊗ b ≡ 𝟘
  first_zero a b e = (λ i. e i ⊗ b) ∙ simp (ring, 𝓡)

module _ {K : Type 0} (𝓚 : CommRing K) where
  infixl 60 ◌⊕◌ ◌⊞◌
  infixl 70 ◌⊗◌ ◌⊠◌
  open 𝓚 use {ops as O}
  open 𝓚.ops use {zero as 𝟘, one as 𝟙, add as ◌⊕◌, mul as ◌⊗◌}
  open (𝓢 𝓚).ops use {zero as ∅, add as ◌⊞◌, mul as ◌⊠◌}

  -- (a + e) q(a + e), by the values at a of the suffixes of q.
  taylor_times : (a : K) (e : ℕ → K) (q : List K)
      → (const O a ⊞ e) ⊠ ev_series 𝓚 q (const O a ⊞ e) ≡ const O (a ⊗ ev O q a) ⊞ e ⊠ ev_series 𝓚 (tops O a q) (const O a ⊞ e)
  taylor_times a e [] = times_zero (𝓢 𝓚) (const O a ⊞ e) e (const O (a ⊗ 𝟘)) (ap (const O) (Ring.mul_zero 𝓚 a) ∙ const_zero 𝓚)
  taylor_times a e (c ∷ q) =
      ap (λ x. (const O a ⊞ e) ⊠ (const O c ⊞ x)) (taylor_times a e q)
      ∙ times_step (𝓢 𝓚) (const O a) e (const O c) (const O (a ⊗ ev O q a)) (ev_series 𝓚 (tops O a q) (const O a ⊞ e))
      (const O (c ⊕ a ⊗ ev O q a)) (const O (a ⊗ (c ⊕ a ⊗ ev O q a)))
      (const_add 𝓚 c (a ⊗ ev O q a)) (const_mul 𝓚 a (c ⊕ a ⊗ ev O q a))

  -- Taylor's step: q(a + e) = q(a) + e q'(a + e), where q' is the quotient by x - a.
  pub taylor : (a : K) (e : ℕ → K) (q : List K) → ev_series 𝓚 q (const O a ⊞ e) ≡ const O (ev O q a) ⊞ e ⊠ ev_series 𝓚 (div O a q) (const O a ⊞ e)
  taylor a e [] = sym (Ring.mul_zero (𝓢 𝓚) e) ∙ sym (Ring.zero_add (𝓢 𝓚) (e ⊠ ∅)) ∙ (λ i. sym (const_zero 𝓚) i ⊞ e ⊠ ∅)
  taylor a e (c ∷ q) =
      taylor_step (𝓢 𝓚) (const O c) (const O (a ⊗ ev O q a)) (const O (c ⊕ a ⊗ ev O q a))
      ((const O a ⊞ e) ⊠ ev_series 𝓚 q (const O a ⊞ e)) e (ev_series 𝓚 (tops O a q) (const O a ⊞ e))
      (taylor_times a e q) (const_add 𝓚 c (a ⊗ ev O q a))

  -- The same for a curve, by its rows, with a + e put for x.
  taylor_rows : (a : K) (e y : ℕ → K) (Q : List (List K))
      → ev₂ 𝓚 Q (const O a ⊞ e) y ≡ ev_series 𝓚 (map (λ q. ev O q a) Q) y ⊞ e ⊠ ev₂ 𝓚 (map (λ q. div O a q) Q) (const O a ⊞ e) y
  taylor_rows a e y [] = sym (Ring.mul_zero (𝓢 𝓚) e) ∙ sym (Ring.zero_add (𝓢 𝓚) (e ⊠ ∅))
  taylor_rows a e y (q ∷ Q) =
      rows_step (𝓢 𝓚) (ev_series 𝓚 q (const O a ⊞ e)) (ev₂ 𝓚 Q (const O a ⊞ e) y) (const O (ev O q a)) e (ev_series 𝓚 (div O a q) (const O a ⊞ e)) y
      (ev_series 𝓚 (map (λ q. ev O q a) Q) y) (ev₂ 𝓚 (map (λ q. div O a q) Q) (const O a ⊞ e) y) (taylor a e q) (taylor_rows a e y Q)

  -- The first r coefficients are zero.
  abbrev Low : ℕ → (ℕ → K) → Type 0
  Low zero s = Unit {0}
  Low (suc r) s = (s 0 ≡ 𝟘) × Low r (tail s)

  low_zero : (r : ℕ) → Low r ∅
  low_zero zero = tt
  low_zero (suc r) = (refl, low_zero r)

  low_const : (r : ℕ) (c : K) → c ≡ 𝟘 → Low r (const O c)
  low_const r c e = subst (Low r) (sym (ap (const O) e ∙ const_zero 𝓚)) (low_zero r)

  low_add : (r : ℕ) (f g : ℕ → K) → Low r f → Low r g → Low r (f ⊞ g)
  low_add zero f g l k = tt
  low_add (suc r) f g l k = ((λ i. l.0 i ⊕ k.0 i) ∙ 𝓚.add_zero 𝟘, low_add r (tail f) (tail g) l.1 k.1)

  low_mul : (r : ℕ) (f g : ℕ → K) → Low r g → Low r (f ⊠ g)
  low_mul zero f g l = tt
  low_mul (suc r) f g l = (
    ap (λ x. f 0 ⊗ x) l.0 ∙ Ring.mul_zero 𝓚 (f 0),
    subst (Low r) (fun_ext λ n. sym (low_right 𝓚 f g l.0 n))
        (low_mul r f (tail g) l.1),
  )

  -- A factor that begins with zero gives one zero more.
  low_up : (r : ℕ) (e h : ℕ → K) → e 0 ≡ 𝟘 → Low r h → Low (suc r) (e ⊠ h)
  low_up r e h z l = (
    first_zero 𝓚 (e 0) (h 0) z,
    subst (Low r) (fun_ext λ n. sym (low_left 𝓚 e h z n)) (low_mul r (tail e) h l),
  )

  -- At b + e, where e begins with zero, a root of order r gives a series that begins with r zeros.
  order_low : (b : K) (e : ℕ → K) (r : ℕ) (q : List K) → e 0 ≡ 𝟘 → Order O b r q → Low r (ev_series 𝓚 q (const O b ⊞ e))
  order_low b e zero q z o = tt
  order_low b e (suc r) q z o =
      subst (Low (suc r)) (sym (taylor b e q))
      (low_add (suc r) (const O (ev O q b)) (e ⊠ ev_series 𝓚 (div O b q) (const O b ⊞ e)) (low_const (suc r) (ev O q b) o.0)
      (low_up r e (ev_series 𝓚 (div O b q) (const O b ⊞ e)) z (order_low b e r (div O b q) z o.1)))

  -- Multiplicity r at (a, b), of a curve given by its rows.
  abbrev pub RowsMultiplicity : ℕ → K → K → List (List K) → Type 0
  RowsMultiplicity r a b Q = (u w : ℕ) → u + w < r → derivative₂ O u w a b Q ≡ 𝟘

  -- And multiplicity r at (a, b) gives one at (a + d, b + e).
  multiplicity_low : (a b : K) (d e : ℕ → K) (r : ℕ) (Q : List (List K)) → d 0 ≡ 𝟘 → e 0 ≡ 𝟘 → RowsMultiplicity r a b Q
      → Low r (ev₂ 𝓚 Q (const O a ⊞ d) (const O b ⊞ e))
  multiplicity_low a b d e zero Q dz ez h = tt
  multiplicity_low a b d e (suc r) Q dz ez h =
      subst (Low (suc r)) (sym (taylor_rows a d (const O b ⊞ e) Q))
      (low_add (suc r) (ev_series 𝓚 (map (λ q. ev O q a) Q) (const O b ⊞ e)) (d ⊠ ev₂ 𝓚 (map (λ q. div O a q) Q) (const O a ⊞ d) (const O b ⊞ e))
      (order_low b e (suc r) (map (λ q. ev O q a) Q) ez
      (derivative_order 𝓚 b (suc r) (map (λ q. ev O q a) Q)
      (λ w l. ap (λ g. derivative O w b 0 (map g Q)) (fun_ext λ q. sym (derivative_ev 𝓚 a q)) ∙ h 0 w (omega arith))))
      (low_up r d (ev₂ 𝓚 (map (λ q. div O a q) Q) (const O a ⊞ d) (const O b ⊞ e)) dz
      (multiplicity_low a b d e r (map (λ q. div O a q) Q) dz ez
      (λ u w l. ap (derivative O w b 0) (map_map (derivative O u a 0) (λ q. div O a q) Q)
      ∙ ap (λ g. derivative O w b 0 (map g Q)) (fun_ext λ q. derivative_div 𝓚 u a q) ∙ h (suc u) w (omega arith)))))

  -- Conversely, r zeros at a + x are a root of order r.
  low_order : (a : K) (r : ℕ) (p : List K) → Low r (ev_series 𝓚 p (const O a ⊞ 𝕏 O)) → Order O a r p
  low_order a zero p l = tt
  low_order a (suc r) p l =
      let g : ℕ → K = ev_series 𝓚 (div O a p) (const O a ⊞ 𝕏 O) in
      let k : Low (suc r) (const O (ev O p a) ⊞ 𝕏 O ⊠ g) = subst (Low (suc r)) (taylor a (𝕏 O) p) l in (
        sym (ap (λ x. ev O p a ⊕ x) (Ring.zero_mul 𝓚 (g 0)) ∙ 𝓚.add_zero (ev O p a)) ∙ k.0,
        low_order a r (div O a p) (subst (Low r) (fun_ext λ n. Ring.zero_add 𝓚 ((𝕏 O ⊠ g) (suc n)) ∙ x_mul 𝓚 g n) k.1),
      )

  -- Through a point of multiplicity r, Q(x, f(x)) has a root of order r.
  pub through : (Q : List (List K)) (f : List K) (r : ℕ) (a : K) → RowsMultiplicity r a (ev O f a) Q → Order O a r (comp O Q f)
  through Q f r a h =
      let g : ℕ → K = ev_series 𝓚 (div O a f) (const O a ⊞ 𝕏 O) in
      low_order a r (comp O Q f)
      (subst (Low r) (sym (ev_series_comp 𝓚 Q f (const O a ⊞ 𝕏 O) ∙ ap (λ y. ev₂ 𝓚 Q (const O a ⊞ 𝕏 O) y) (taylor a (𝕏 O) f)))
      (multiplicity_low a (ev O f a) (𝕏 O) (𝕏 O ⊠ g) r Q refl (Ring.zero_mul 𝓚 (g 0)) h))
