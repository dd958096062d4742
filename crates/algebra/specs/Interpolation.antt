-- Interpolation by Kötter's method: a table of Y curves, one for each leading power of y, that meets one condition after another.
use Rattle.std.specs.Prelude.{◌≡◌, ℕ, zero, suc, ◌+◌, ◌-◌, ◌*◌, ◌<◌, ◌≤◌, ◌≢◌, ◌⊎◌, ◌==◌, nat_le, if◌then◌else◌}
use Rattle.algebra.specs.Ring.{Ops}
use Rattle.algebra.specs.Curve.{Table, Through, DegreeBelow, Nonzero, discrepancy}

-- The order of the monomials x^i y^j: by weighted degree, then by the power of y, which is below Y.
unfoldable pub key : (Y v i j : ℕ) → ℕ
key Y v i j = Y * (i + v * j) + j

-- The sum f 0 + .. + f (n - 1).
unfoldable pub total : ℕ → (ℕ → ℕ) → ℕ
total zero f = 0
total (suc n) f = total n f + f n

-- How many monomials x^i y^j have j below Y and weighted degree D at most.
unfoldable pub monomials : (Y v D : ℕ) → ℕ
monomials Y v D = total Y (λ j. total (suc D) (λ i. if nat_le (i + v * j) D then 1 else 0))

-- The sum r + (r - 1) + .. + 1, the number of the conditions of multiplicity r at one pair.
unfoldable pub triangle : ℕ → ℕ
triangle r = total r (λ w. r - w)

-- A set of conditions: (a, b, u, w) asks that the derivative of order (u, w) is zero at (a, b).
abbrev pub Conditions : Type 0 → Type 1
Conditions K = K → K → ℕ → ℕ → Type 0

-- The condition of the order before (u, w) in x is among them.
abbrev pub Ready : {K : Type 0} → Conditions K → Conditions K
Ready S a b zero w = Unit {0}
Ready S a b (suc u) w = S a b u w

-- With each condition they have the one before it.
abbrev pub Closed : {K : Type 0} → Conditions K → Type 0
Closed {K} S = (a b : K) (u w : ℕ) → S a b u w → Ready S a b u w

-- S' has at most one condition more than S.
abbrev pub OneMore : {K : Type 0} → Conditions K → K → K → ℕ → ℕ → Conditions K → Type 0
OneMore {K} S a₀ b₀ u₀ w₀ S' = (a b : K) (u w : ℕ) → S' a b u w → S a b u w ⊎ ((a ≡ a₀) × (b ≡ b₀) × (u ≡ u₀) × (w ≡ w₀))

-- The conditions of multiplicity r at the first N pairs.
abbrev pub All : {K : Type 0} → (ℕ → K) → (ℕ → K) → ℕ → ℕ → Conditions K
All xs ys r N a b u w = (t : ℕ) × (t < N) × (a ≡ xs t) × (b ≡ ys t) × (u + w < r)

-- S, and those of multiplicity r at (a, b) with w below k.
abbrev pub Upto : {K : Type 0} → Conditions K → K → K → ℕ → ℕ → Conditions K
Upto S a₀ b₀ r k a b u w = S a b u w ⊎ ((a ≡ a₀) × (b ≡ b₀) × (u + w < r) × (w < k))

-- S, and those at (a, b) of one w with u below h.
abbrev pub Column : {K : Type 0} → Conditions K → K → K → ℕ → ℕ → Conditions K
Column S a₀ b₀ w₀ h a b u w = S a b u w ⊎ ((a ≡ a₀) × (b ≡ b₀) × (u < h) × (w ≡ w₀))

-- Equal where the coefficients count.
abbrev pub Same : {K : Type 0} → (X Y : ℕ) → Table K → Table K → Type 0
Same X Y c e = (i j : ℕ) → i < X → j < Y → c i j ≡ e i j

module _ {K : Type 0} (O : Ops K) where
  -- The product of x and the series f.
  unfoldable pub up : (ℕ → K) → ℕ → K
  up f zero = O.zero
  up f (suc i) = f i

  -- The power y^j, the curve j of the first table.
  unfoldable pub y_power : ℕ → Table K
  y_power j zero k = if k == j then O.one else O.zero
  y_power j (suc i) k = O.zero

  -- The product (x - a) c.
  unfoldable pub linear : K → Table K → Table K
  linear a c i j = O.sub (up (λ k. c k j) i) (O.mul a (c i j))

  -- The difference d c - e g.
  unfoldable pub mix : K → Table K → K → Table K → Table K
  mix d c e g i j = O.sub (O.mul d (c i j)) (O.mul e (g i j))

-- A curve that meets the conditions S and is led by x^i y^j.
pub record Good {K : Type 0} (O : Ops K) (X Y v : ℕ) (S : Conditions K) (j i : ℕ) (c : Table K) : Type 0 where
  pub kept : (a b : K) (u w : ℕ) → S a b u w → discrepancy O X Y a b u w c ≡ O.zero
  pub led : c i j ≢ O.zero
  pub above : (i' k : ℕ) → i' < X → k < Y → key Y v i j < key Y v i' k → c i' k ≡ O.zero

-- The table after n conditions. A curve is live while its lead has weighted degree D at most; what is not live is not spoken of.
pub record Inv {K : Type 0} (O : Ops K) (X Y v D : ℕ) (S : Conditions K) (n : ℕ) (curves : ℕ → Table K) (lead : ℕ → ℕ) : Type 0 where
  pub good : (j : ℕ) → j < Y → lead j + v * j ≤ D → Good O X Y v S j (lead j) (curves j)
  pub count : total Y lead ≤ n

-- How far the run over the pairs (xs t, ys t) has come: t pairs are done,
unfoldable pub PairsDone : {K : Type 0} (O : Ops K) (X Y v D r : ℕ) (xs ys : ℕ → K) (t : ℕ) (curves : ℕ → Table K) (lead : ℕ → ℕ) → Type 0
PairsDone O X Y v D r xs ys t curves lead = Inv O X Y v D (All xs ys r t) (t * triangle r) curves lead

-- and of the next pair the conditions of order below w in y,
unfoldable pub ColumnsDone : {K : Type 0} (O : Ops K) (X Y v D r : ℕ) (xs ys : ℕ → K) (t w : ℕ) (curves : ℕ → Table K) (lead : ℕ → ℕ) → Type 0
ColumnsDone O X Y v D r xs ys t w curves lead =
    Inv O X Y v D (Upto (All xs ys r t) (xs t) (ys t) r w) (t * triangle r + total w (λ k. r - k)) curves lead

-- and of order w those of order below u in x.
unfoldable pub PlacesDone : {K : Type 0} (O : Ops K) (X Y v D r : ℕ) (xs ys : ℕ → K) (t w u : ℕ) (curves : ℕ → Table K) (lead : ℕ → ℕ) → Type 0
PlacesDone O X Y v D r xs ys t w u curves lead =
    Inv O X Y v D (Column (Upto (All xs ys r t) (xs t) (ys t) r w) (xs t) (ys t) w u) (t * triangle r + total w (λ k. r - k) + u) curves lead

-- One step at the condition (a, b, u, w), with the pivot p: the live curve of least lead that fails the condition.
-- The pivot is multiplied by x - a; a multiple of it is taken off the other curves that fail.
pub record Step {K : Type 0} (O : Ops K) (X Y v D : ℕ) (a b : K) (u w : ℕ) (p : ℕ) (curves : ℕ → Table K) (lead : ℕ → ℕ)
    (curves' : ℕ → Table K) (lead' : ℕ → ℕ) : Type 0 where
  pub in_table : p < Y
  pub live : lead p + v * p ≤ D
  pub off : discrepancy O X Y a b u w (curves p) ≢ O.zero
  pub least : (j : ℕ) → j < Y → lead j + v * j ≤ D → discrepancy O X Y a b u w (curves j) ≢ O.zero → key Y v (lead p) p ≤ key Y v (lead j) j
  pub moved : lead' p ≡ suc (lead p)
  pub stay : (j : ℕ) → j < Y → j ≢ p → lead' j ≡ lead j
  pub lifted : suc (lead p) + v * p ≤ D → Same X Y (curves' p) (linear O a (curves p))
  pub others : (j : ℕ) → j < Y → j ≢ p → lead j + v * j ≤ D →
      ((discrepancy O X Y a b u w (curves j) ≡ O.zero) × Same X Y (curves' j) (curves j))
      ⊎ ((discrepancy O X Y a b u w (curves j) ≢ O.zero)
      × Same X Y (curves' j) (mix O (discrepancy O X Y a b u w (curves p)) (curves j) (discrepancy O X Y a b u w (curves j)) (curves p)))

-- A curve that is not zero, of weighted degree D at most, with multiplicity r at each of the N pairs.
pub record Fitted {K : Type 0} (O : Ops K) (X Y v D r N : ℕ) (xs ys : ℕ → K) (c : Table K) : Type 0 where
  pub some : Nonzero O X Y c
  pub within : DegreeBelow O X Y v (suc D) c
  pub through : Through O X Y r N xs ys c

-- How the run over N pairs ends: some curve is live, and a live curve is fitted.
pub record Ended {K : Type 0} (O : Ops K) (X Y v D r N : ℕ) (xs ys : ℕ → K) (curves : ℕ → Table K) (lead : ℕ → ℕ) : Type 0 where
  pub live : (j : ℕ) × (j < Y) × (lead j + v * j ≤ D)
  pub fitted : (j : ℕ) → j < Y → lead j + v * j ≤ D → Fitted O X Y v D r N xs ys (curves j)
