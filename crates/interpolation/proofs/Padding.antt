-- Sums of codes whose last terms are zero, and the derivative as it is computed.
use Rattle.std.proofs.Common.{◌≡◌, ℕ, zero, suc, ◌+◌, ◌*◌, ◌<◌, ◌≤◌, List, sym, ap, ◌∙◌, ap₂, ⊎_elim, arith}
use Rattle.std.proofs.lemmas.Bool.{cases_lt}
use Rattle.algebra.specs.Field.{Meaning, Laws, read, codes}
use Rattle.algebra.specs.Curve.{sum, weight, dot, discrepancy, DegreeBelow}
use Rattle.algebra.specs.CodeRecovery.{at, table}
use Rattle.algebra.proofs.FirstFound.{read_below, read_lt}
use Rattle.algebra.proofs.Ring.{mul_zero}
use Rattle.algebra.proofs.Sums.{sum_ext}
use Rattle.algebra.proofs.Elements.{decode, field, decode_product, decode_zero}
use Rattle.algebra.proofs.Carried.{P, some, zero_code}
use Rattle.interpolation.specs.Size.{columns, rows}
use Rattle.interpolation.specs.Weighed.{Weighed}
use Rattle.interpolation.specs.Region.{width, cell, row_value}

module _ (F : Meaning) (L : Laws F) where
  -- Operands are read, so a product may have them as read.
  pub product_read : (a b : ℕ) → F.product a b ≡ F.product a (read F.size b)
  product_read a b =
      L.product_reads a b ∙ ap (F.product (read F.size a)) (sym (read_below F.size _ (read_lt F.size b (some F L)))) ∙ sym (L.product_reads a (read F.size b))

  pub product_zero : (a : ℕ) → F.product a 0 ≡ 0
  product_zero a =
      zero_code F L _ (L.product_below a 0) (decode_product F L a 0 ∙ ap ((P F L).mul (decode F L a)) (decode_zero F L) ∙ mul_zero (field F L).ring (decode F L a))

  pub difference_zero : F.difference 0 0 ≡ 0
  difference_zero = sym (L.sum_zero _ (L.difference_below 0 0)) ∙ L.difference_sum 0 0 (some F L) (some F L)

  sum_below : (n : ℕ) (f : ℕ → ℕ) → sum (codes F) n f < F.size
  unfolding sum
  sum_below zero f = some F L
  sum_below (suc n) f = L.sum_below _ _

  -- Terms that are zero may be added at the end.
  sum_pad : (m n : ℕ) (f : ℕ → ℕ) → m ≤ n → ((i : ℕ) → m ≤ i → i < n → f i ≡ 0) → sum (codes F) m f ≡ sum (codes F) n f
  unfolding sum
  sum_pad m zero f h z = ap (λ k. sum (codes F) k f) (let e : m ≡ 0 = omega arith in e)
  sum_pad m (suc n) f h z = ⊎_elim
      (λ l. sum_pad m n f (omega arith) (λ i o b. z i o (omega arith))
      ∙ sym (ap (F.sum (sum (codes F) n f)) (z n (omega arith) (omega arith)) ∙ L.sum_zero _ (sum_below n f)))
      (λ l. ap (λ k. sum (codes F) k f) (let e : m ≡ suc n = omega arith in e))
      (cases_lt m (suc n))

  module _ (v D : ℕ) (fits : D < columns) (l : List ℕ) (low : DegreeBelow (codes F) columns rows v (suc D) (table F columns l)) where
    -- A row under the weights of x: the cells past the weighted degree are zero.
    row_is : (a u : ℕ) (wx : List ℕ) → Weighed F a u (D + 1) wx → (j : ℕ) → j < rows → row_value F v D wx l j ≡ dot (codes F) columns (weight (codes F) a u) (λ i. table F columns l i j)
    unfolding row_value dot
    row_is a u wx h j lt =
        sum_ext (codes F) (width v D j) _ (λ i. F.product (weight (codes F) a u i) (table F columns l i j))
        (λ i o. ap (λ x. F.product x (cell l i j)) (h i (omega arith)) ∙ product_read _ _)
        ∙ sum_pad (width v D j) columns (λ i. F.product (weight (codes F) a u i) (table F columns l i j)) (omega arith)
        (λ i o b. ap (F.product (weight (codes F) a u i)) (low i j b lt (omega arith)) ∙ product_zero _)

    row_none : (wx : List ℕ) (j : ℕ) → D < v * j → row_value F v D wx l j ≡ 0
    unfolding row_value dot sum
    row_none wx j h = let e : width v D j ≡ 0 = omega arith in ap (λ n. sum (codes F) n (λ i. F.product (at wx i) (cell l i j))) e

    pub value_is : (a b u w : ℕ) (wx wy : List ℕ) → Weighed F a u (D + 1) wx → Weighed F b w rows wy →
        (n : ℕ) → n ≤ rows → ((j : ℕ) → n ≤ j → j < rows → D < v * j) →
        dot (codes F) n (at wy) (row_value F v D wx l) ≡ discrepancy (codes F) columns rows a b u w (table F columns l)
    unfolding discrepancy dot
    value_is a b u w wx wy hx hy n few rest =
        sum_pad n rows (λ j. F.product (at wy j) (row_value F v D wx l j)) few (λ j o lt. ap (F.product (at wy j)) (row_none wx j (rest j o lt)) ∙ product_zero _)
        ∙ sum_ext (codes F) rows _ _ (λ j lt. ap₂ F.product (hy j lt) (row_is a u wx hx j lt))
