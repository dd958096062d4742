-- The value of a polynomial by Horner's rule, from the laws.
use Rattle.std.proofs.Common.{◌≡◌, ℕ, suc, ◌<◌, List, [], ◌∷◌, sym, ap, ◌∙◌, ap₂, arith}
use Rattle.algebra.specs.Field.{Meaning, Laws, codes}
use Rattle.algebra.specs.Series.{ev}
use Rattle.algebra.specs.Polynomial.{power, value_from, value}
use Rattle.algebra.specs.Ring.{CommRing}
use Rattle.algebra.proofs.Ring.{mul_zero, one_mul}
use Rattle.algebra.proofs.Elements as el

-- The value by Horner's rule, as a program computes it.
abbrev pub horner : Meaning → ℕ → List ℕ → ℕ
horner F x cs = ev (codes F) cs x

module _ {K : Type 0} (R : CommRing K) where
  -- One coefficient more.
  step : (c p x h : K) → R.ops.add (R.ops.mul c p) (R.ops.mul (R.ops.mul p x) h) ≡ R.ops.mul p (R.ops.add c (R.ops.mul x h))
  step c p x h = ap₂ R.ops.add (R.mul_comm c p) (R.mul_assoc p x h) ∙ sym (R.mul_add p c (R.ops.mul x h))

module _ (F : Meaning) (L : Laws F) where
  d : ℕ → el.Element F.size
  d = el.decode F L

  times_horner : (x i : ℕ) (cs : List ℕ) → el.decode F L (value_from F x i cs) ≡ (el.field F L).ring.ops.mul (el.decode F L (power F x i)) (el.decode F L (horner F x cs))
  times_horner x i [] = el.decode_zero F L ∙ sym (ap ((el.field F L).ring.ops.mul _) (el.decode_zero F L) ∙ mul_zero (el.field F L).ring _)
  times_horner x i (c ∷ cs) =
      let R = (el.field F L).ring in
      el.decode_sum F L (F.product c (power F x i)) (value_from F x (suc i) cs)
      ∙ ap₂ R.ops.add (el.decode_product F L c (power F x i)) (times_horner x (suc i) cs ∙ ap (λ y. R.ops.mul y (el.decode F L (horner F x cs))) (el.decode_product F L (power F x i) x))
      ∙ step R _ _ _ _
      ∙ ap (R.ops.mul (el.decode F L (power F x i))) (sym (el.decode_sum F L c (F.product x (horner F x cs)) ∙ ap (R.ops.add (el.decode F L c)) (el.decode_product F L x (horner F x cs))))

  value_below : (x i : ℕ) (cs : List ℕ) → value_from F x i cs < F.size
  value_below x i [] = let h = L.two in omega arith
  value_below x i (c ∷ cs) = L.sum_below _ _

  horner_below : (x : ℕ) (cs : List ℕ) → horner F x cs < F.size
  horner_below x [] = let h = L.two in omega arith
  horner_below x (c ∷ cs) = L.sum_below _ _

  pub by_horner : (cs : List ℕ) (x : ℕ) → horner F x cs ≡ value F cs x
  by_horner cs x =
      let R = (el.field F L).ring in
      let e : el.decode F L (value F cs x) ≡ el.decode F L (horner F x cs) =
      times_horner x 0 cs ∙ ap (λ y. R.ops.mul y (el.decode F L (horner F x cs))) (el.decode_one F L) ∙ one_mul R _ in
      sym (el.code_decode F L _ (horner_below x cs)) ∙ ap (λ (y : el.Element F.size). y.code) (sym e) ∙ el.code_decode F L _ (value_below x 0 cs)
