-- The flat table c(i, j) of a curve and its rows are joined here: the rows as lists of coefficients,
-- cut to the weighted degree, have the derivatives and the values of the table.
use Rattle.std.proofs.Common.{◌≡◌, ℕ, zero, suc, ◌+◌, ◌-◌, ◌*◌, ◌<◌, ◌≤◌, min, cond, List, [], ◌∷◌, map, sym, refl, ap, ◌∙◌, ap₂, ⊎_elim, mul-add, arith, le-ltb, lt-ltb}
use mathlib.Core.Path.{fun_ext}
use Rattle.std.proofs.lemmas.Bool.{cases_lt}
use Rattle.algebra.specs.Ring.{Ops, CommRing}
use Rattle.algebra.specs.Series.{poly, 𝕏, series, coefficients}
use Rattle.algebra.specs.Curve.{Table, sum, weight, dot, discrepancy, DegreeBelow, row}
use Rattle.algebra.proofs.Ring.{mul_zero}
use Rattle.algebra.proofs.Lists.{tab, length_tab}
use Rattle.algebra.proofs.Sums.{sum_ext, sum_front, sum_pad}
use Rattle.algebra.proofs.Hasse.{derivative, derivative₂}
use Rattle.algebra.proofs.Composition.{Fits, ev₂, ev_series_coefficients}

module _ {K : Type 0} (O : Ops K) where
  pub row_in : (X : ℕ) (c : Table K) (j i : ℕ) → i < X → row O X c j i ≡ c i j
  unfolding row
  row_in X c j i h = ap (λ b. cond b (c i j) O.zero) (lt-ltb i X h)

  pub row_out : (X : ℕ) (c : Table K) (j i : ℕ) → X ≤ i → row O X c j i ≡ O.zero
  unfolding row
  row_out X c j i h = ap (λ b. cond b (c i j) O.zero) (le-ltb i X h)

  -- A coefficient that is zero if it counts is zero in its row.
  pub row_zero : (X : ℕ) (c : Table K) (j i : ℕ) → (i < X → c i j ≡ O.zero) → row O X c j i ≡ O.zero
  row_zero X c j i h = ⊎_elim (λ l. row_in X c j i l ∙ h l) (λ l. row_out X c j i l) (cases_lt i X)

-- The rows P 0, .., P (n - 1) of a curve of weighted degree below m, each cut at X: m, m - v, m - 2 v coefficients and so on.
abbrev pub rows : {A : Type 0} → (v X n m : ℕ) → (ℕ → ℕ → A) → List (List A)
rows v X zero m P = []
rows v X (suc n) m P = tab (min X m) (P 0) ∷ rows v X n (m - v) (λ j. P (suc j))

pub rows_fit : {A : Type 0} (v X n m : ℕ) (P : ℕ → ℕ → A) → Fits v m (rows v X n m P)
rows_fit v X zero m P = tt
rows_fit v X (suc n) m P = ((let e = length_tab (min X m) (P 0) in omega arith), rows_fit v X n (m - v) (λ j. P (suc j)))

-- The weighted degree of the later rows.
later : (v m i j : ℕ) → m - v ≤ i + v * j → m ≤ i + v * suc j
later v m i j h = let e = mul-add v j 1 in omega arith

module _ {K : Type 0} (𝓚 : CommRing K) where
  infixl 60 ◌⊕◌
  infixl 70 ◌⊗◌
  open 𝓚 use {ops as O}
  open 𝓚.ops use {zero as 𝟘, add as ◌⊕◌, mul as ◌⊗◌}

  -- Rows that are zero from the weighted degree m on.
  abbrev Light : (v X n m : ℕ) → (ℕ → ℕ → K) → Type 0
  Light v X n m P = (j i : ℕ) → j < n → i < X → m ≤ i + v * j → P j i ≡ 𝟘

  first : (v X n m : ℕ) (P : ℕ → ℕ → K) → Light v X (suc n) m P → (i : ℕ) → m ≤ i → i < X → P 0 i ≡ 𝟘
  first v X n m P z i l b = z 0 i (omega arith) b (let q : v * 0 ≡ 0 = omega arith in omega arith)

  rest : (v X n m : ℕ) (P : ℕ → ℕ → K) → Light v X (suc n) m P → Light v X n (m - v) (λ j. P (suc j))
  rest v X n m P z j i l b o = z (suc j) i (omega arith) b (later v m i j o)

  -- The derivative of a list from a function is a sum.
  derivative_tab : (u : ℕ) (a : K) (s n : ℕ) (f : ℕ → K) → derivative O u a s (tab n f) ≡ sum O n (λ i. weight O a u (s + i) ⊗ f i)
  unfolding sum
  derivative_tab u a s zero f = refl
  derivative_tab u a s (suc n) f =
      ap₂ ◌⊕◌ (ap (λ k. weight O a u k ⊗ f 0) (let e : s ≡ s + 0 = omega arith in e))
      (derivative_tab u a (suc s) n (λ i. f (suc i)) ∙ sum_ext O n _ _ (λ i l. ap (λ k. weight O a u k ⊗ f (suc i)) (let e : suc s + i ≡ s + suc i = omega arith in e)))
      ∙ sym (sum_front 𝓚 n (λ i. weight O a u (s + i) ⊗ f i))

  derivative_dot : (u : ℕ) (a : K) (n : ℕ) (f : ℕ → K) → derivative O u a 0 (tab n f) ≡ dot O n (weight O a u) f
  unfolding dot
  derivative_dot u a n f =
      derivative_tab u a 0 n f ∙ sum_ext O n _ _ (λ i l. ap (λ k. weight O a u k ⊗ f i) (let e : 0 + i ≡ i = omega arith in e))

  dot_pad : (m n : ℕ) (h f : ℕ → K) → m ≤ n → ((i : ℕ) → m ≤ i → i < n → f i ≡ 𝟘) → dot O m h f ≡ dot O n h f
  unfolding dot
  dot_pad m n h f l z = sum_pad 𝓚 m n _ l (λ i o b. ap (λ x. h i ⊗ x) (z i o b) ∙ mul_zero 𝓚 (h i))

  derivative_rows : (u : ℕ) (a : K) (v X n m : ℕ) (P : ℕ → ℕ → K) → Light v X n m P
      → map (derivative O u a 0) (rows v X n m P) ≡ tab n (λ j. dot O X (weight O a u) (P j))
  derivative_rows u a v X zero m P z = refl
  derivative_rows u a v X (suc n) m P z =
      λ k. (derivative_dot u a (min X m) (P 0) ∙ dot_pad (min X m) X (weight O a u) (P 0) (omega arith) (λ i l b. first v X n m P z i (omega arith) b)) k
      ∷ derivative_rows u a v X n (m - v) (λ j. P (suc j)) (rest v X n m P z) k

  -- The table and its rows have the same derivatives.
  pub rows_derivative : (u w : ℕ) (a b : K) (v X Y m : ℕ) (c : Table K) → DegreeBelow O X Y v m c
      → derivative₂ O u w a b (rows v X Y m (row O X c)) ≡ discrepancy O X Y a b u w c
  unfolding discrepancy dot
  rows_derivative u w a b v X Y m c z =
      ap (derivative O w b 0) (derivative_rows u a v X Y m (row O X c) (λ j i l b o. row_in O X c j i b ∙ z i j b l o))
      ∙ derivative_dot w b Y _
      ∙ sum_ext O Y _ _ (λ j l. ap (λ x. weight O b w j ⊗ x) (sum_ext O X _ _ (λ i k. ap (λ x. weight O a u i ⊗ x) (row_in O X c j i k))))

  coefficients_tab : (n : ℕ) (f : ℕ → K) → ((i : ℕ) → n ≤ i → f i ≡ 𝟘) → (i : ℕ) → coefficients O (tab n f) i ≡ f i
  coefficients_tab zero f h i = sym (h i (omega arith))
  coefficients_tab (suc n) f h zero = refl
  coefficients_tab (suc n) f h (suc i) = coefficients_tab n (λ k. f (suc k)) (λ k l. h (suc k) (omega arith)) i

  values : (v X n m : ℕ) (P : ℕ → ℕ → K) (y : ℕ → K) → ((j i : ℕ) → X ≤ i → P j i ≡ 𝟘) → Light v X n m P
      → ev₂ 𝓚 (rows v X n m P) (𝕏 O) y ≡ poly (series O) n P y
  values v X zero m P y o z = refl
  values v X (suc n) m P y o z =
      λ k. (series O).add ((ev_series_coefficients 𝓚 (tab (min X m) (P 0)) ∙ fun_ext (coefficients_tab (min X m) (P 0) zero_past)) k)
      ((series O).mul y (values v X n (m - v) (λ j. P (suc j)) y (λ j. o (suc j)) (rest v X n m P z) k))
    where
      zero_past : (i : ℕ) → min X m ≤ i → P 0 i ≡ 𝟘
      zero_past i l = ⊎_elim (λ h. first v X n m P z i (omega arith) h) (λ h. o 0 i h) (cases_lt i X)

  -- The table and its rows have the same value with a series put for y.
  pub rows_value : (v X Y m : ℕ) (c : Table K) (y : ℕ → K) → DegreeBelow O X Y v m c
      → ev₂ 𝓚 (rows v X Y m (row O X c)) (𝕏 O) y ≡ poly (series O) Y (row O X c) y
  rows_value v X Y m c y z =
      values v X Y m (row O X c) y (row_out O X c) (λ j i l b o. row_in O X c j i b ∙ z i j b l o)
