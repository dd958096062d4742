-- The curve divided by a power of x, and its value at x = 0.
use Rattle.std.proofs.Common.{◌≡◌, ℕ, zero, suc, ◌+◌, ◌-◌, ◌*◌, ◌<◌, ◌≤◌, Bool, true, false, cond, ltb, List, [], ◌∷◌, length, get_or, sym, refl, ap, ◌∙◌, subst, subst₂, ap₂, ⊎_elim, arith, ltb-false, ltb-true}
use Rattle.std.proofs.lemmas.Bool.{cases_lt}
use Rattle.algebra.specs.Field.{Meaning, Laws, read, codes}
use Rattle.algebra.specs.Polynomial.{value}
use Rattle.algebra.specs.Series.{poly}
use Rattle.algebra.specs.Curve.{row, DegreeBelow, Lies}
use Rattle.algebra.specs.Interpolation.{Same}
use Rattle.algebra.specs.Walk.{shifted, bottom}
use Rattle.algebra.specs.CodeRecovery.{table}
use Rattle.algebra.proofs.Rows.{row_in, row_zero}
use Rattle.algebra.proofs.Values.{horner, by_horner}
use Rattle.algebra.proofs.CodeRecovery.{code_lies_same, code_shifted_lies}
use Rattle.interpolation.specs.Size.{columns}
use Rattle.interpolation.specs.declared.region.Region.{Region}
use Rattle.interpolation.specs.Region.{cell}
use Rattle.interpolation.specs.Steps.{wide_at, Light, Divided, Lowered, FootOf}
use Rattle.interpolation.proofs.Codes.{read_zero, sum_first, sum_none}
use Rattle.interpolation.proofs.Narrowing.{code_narrow}

module _ (F : Meaning) (r : Region) (width m : ℕ) (old new : List ℕ) (divided : Divided r m old new) (most : width ≤ r.width) (enough : r.width ≤ m + width)
    (light : DegreeBelow (codes F) r.width r.height r.weight r.width (table F columns old)) where
  -- a coefficient of the curve divided by x^m, outside the row
  shifted_zero : (i j : ℕ) → j < r.height → r.width ≤ m + i + r.weight * j → shifted (codes F) r.width m (table F columns old) i j ≡ 0
  shifted_zero i j hj o = row_zero (codes F) r.width (table F columns old) j (m + i) (λ l. light (m + i) j l hj o)

  lowered_same : Same r.width r.height (table F columns new) (shifted (codes F) r.width m (table F columns old))
  lowered_same i j hi hj = ⊎_elim
      (λ h. ap (read F.size) (divided.lowered i j h hj) ∙ by (ltb (m + i) (wide_at r j)) refl)
      (λ h. ap (read F.size) (divided.beside i j (let w = r.wide in omega arith) h)
      ∙ light i j hi hj (let z : r.width - r.weight * j ≤ i = h in omega arith)
      ∙ sym (shifted_zero i j hj (let z : r.width - r.weight * j ≤ i = h in omega arith)))
      (cases_lt i (wide_at r j))
    where
      by : (b : Bool) → ltb (m + i) (wide_at r j) ≡ b → read F.size (cond b (cell old (m + i) j) 0) ≡ row (codes F) r.width (table F columns old) j (m + i)
      by true e =
          let z : m + i < r.width - r.weight * j = ltb-true (m + i) (wide_at r j) e in
          sym (row_in (codes F) r.width (table F columns old) j (m + i) (omega arith))
      by false e =
          let z : r.width - r.weight * j ≤ m + i = ltb-false (m + i) (wide_at r j) e in
          read_zero F.size 0 refl ∙ sym (shifted_zero i j hj (omega arith))

  lies : Laws F → (g : List ℕ) → Lies (codes F) r.width r.height (table F columns old) g → Lies (codes F) width r.height (table F columns new) g
  lies L g z =
      code_narrow F L width r.height r.width r.height (table F columns new) most (omega arith)
      (λ i j hi hj h. lowered_same i j hi hj ∙ shifted_zero i j hj (omega arith))
      (λ i j hi hj h. absurd (omega arith)) g
      (code_lies_same F L r.width r.height (shifted (codes F) r.width m (table F columns old)) (table F columns new) lowered_same g
      (code_shifted_lies F L r.width r.height m (table F columns old) (λ i h j l. read_zero F.size _ (divided.clear i h j l)) g z))

  degree : DegreeBelow (codes F) width r.height r.weight width (table F columns new)
  degree i j hi hj o = lowered_same i j (omega arith) hj ∙ shifted_zero i j hj (omega arith)

module _ (F : Meaning) (r low : Region) (old new : List ℕ) (lw : Lowered r low old new) (light : Light F r old) where
  pub lowered_lies : Laws F → (g : List ℕ) → Lies (codes F) r.width r.height (table F columns old) g → Lies (codes F) low.width low.height (table F columns new) g
  unfolding Light
  lowered_lies L g z =
      subst (λ h. Lies (codes F) low.width h (table F columns new) g) (sym lw.narrower.height)
      (lies F r low.width lw.power old new lw.divided lw.narrower.most lw.narrower.enough light L g z)

  pub lowered_light : Light F low new
  unfolding Light
  lowered_light =
      subst₂ (λ h v. DegreeBelow (codes F) low.width h v low.width (table F columns new)) (sym lw.narrower.height) (sym lw.narrower.weight)
      (degree F r low.width lw.power old new lw.divided lw.narrower.most lw.narrower.enough light)

-- The value at x = 0, from the list of the coefficients there.
module _ (F : Meaning) (L : Laws F) (y : ℕ) where
  horner_poly : (l : List ℕ) (n : ℕ) (P : ℕ → ℕ) → length l ≡ n → ((j : ℕ) → j < n → read F.size (get_or l j 0) ≡ P j) → horner F y l ≡ poly (codes F) n P y
  horner_poly [] zero P e h = refl
  horner_poly [] (suc n) P e h = absurd (omega arith)
  horner_poly (c ∷ l) zero P e h = absurd (omega arith)
  horner_poly (c ∷ l) (suc n) P e h =
      sum_first F L c (F.product y (horner F y l))
      ∙ ap₂ (λ a b. F.sum a (F.product y b)) (h 0 (omega arith)) (horner_poly l n (λ j. P (suc j)) (let q : length l ≡ n = omega arith in q) (λ j lt. h (suc j) (omega arith)))

  -- coefficients at the end that are zero
  poly_none : (n : ℕ) (P : ℕ → ℕ) → ((j : ℕ) → j < n → P j ≡ 0) → poly (codes F) n P y ≡ 0
  poly_none zero P h = refl
  poly_none (suc n) P h = sum_none F L y (P 0) _ (h 0 (omega arith)) (poly_none n (λ j. P (suc j)) (λ j l. h (suc j) (omega arith)))

  poly_cut : (n k : ℕ) (P : ℕ → ℕ) → k ≤ n → ((j : ℕ) → k ≤ j → j < n → P j ≡ 0) → poly (codes F) k P y ≡ poly (codes F) n P y
  poly_cut n zero P o h = sym (poly_none n P (λ j l. h j (omega arith) l))
  poly_cut zero (suc k) P o h = absurd (omega arith)
  poly_cut (suc n) (suc k) P o h = ap (λ x. F.sum (P 0) (F.product y x)) (poly_cut n k (λ j. P (suc j)) (omega arith) (λ j a b. h (suc j) (omega arith) (omega arith)))

  pub bottom_value : (front l c : List ℕ) (n used : ℕ) → length front ≡ used → ((j : ℕ) → j < used → get_or front j 0 ≡ get_or l j 0) → FootOf n used l c → value F front y ≡ bottom (codes F) n (table F columns c) y
  bottom_value front l c n used e h f =
      sym (by_horner F L front y)
      ∙ horner_poly front used (λ j. table F columns c 0 j) e (λ j lt. ap (read F.size) (h j lt ∙ f.each j (let s = f.short in omega arith)))
      ∙ poly_cut n used (λ j. table F columns c 0 j) f.short (λ j a b. read_zero F.size _ (sym (f.each j b) ∙ f.rest j a b))
