-- A curve whose coefficients outside a region are zero has the same polynomials on it as its region.
use Rattle.std.proofs.Common.{◌≡◌, ℕ, zero, suc, ◌+◌, ◌-◌, ◌<◌, ◌≤◌, List, map, sym, ap, ◌∙◌, ⊎_elim, arith}
use mathlib.Core.Path.{fun_ext}
use Rattle.std.proofs.lemmas.Bool.{cases_lt}
use Rattle.algebra.specs.Ring.{CommRing}
use Rattle.algebra.specs.Field.{Meaning, Laws, codes}
use Rattle.algebra.specs.Series.{poly, series, coefficients}
use Rattle.algebra.specs.Curve.{Table, row, ZeroAt, Lies}
use Rattle.algebra.proofs.Series.{𝓢}
use Rattle.algebra.proofs.Horner.{poly_ext, poly_top}
use Rattle.algebra.proofs.Rows.{row_in, row_out, row_zero}
use Rattle.algebra.proofs.Elements.{field, decode}
use Rattle.algebra.proofs.Carried.{elements, code_zero, lies_up, lies_down}

-- Coefficients at the end that are zero.
module _ {R : Type 0} (𝓡 : CommRing R) where
  open 𝓡 use {ops as O}

  poly_ends : (n d : ℕ) (P : ℕ → R) (y : R) → ((j : ℕ) → n ≤ j → j < n + d → P j ≡ O.zero) → poly O (n + d) P y ≡ poly O n P y
  poly_ends n zero P y h = ap (λ m. poly O m P y) (let q : n + 0 ≡ n = omega arith in q)
  poly_ends n (suc d) P y h =
      ap (λ m. poly O m P y) (let q : n + suc d ≡ suc (n + d) = omega arith in q)
      ∙ poly_top 𝓡 (n + d) P y (h (n + d) (omega arith) (omega arith))
      ∙ poly_ends n d P y (λ j l u. h j l (omega arith))

module _ {K : Type 0} (𝓚 : CommRing K) where
  open 𝓚 use {ops as O}

  narrow : (X Y X' Y' : ℕ) (c : Table K) → X ≤ X' → Y ≤ Y'
      → ((i j : ℕ) → i < X' → j < Y' → X ≤ i → c i j ≡ O.zero) → ((i j : ℕ) → i < X' → j < Y' → Y ≤ j → c i j ≡ O.zero)
      → (f : List K) → Lies O X' Y' c f → Lies O X Y c f
  unfolding ZeroAt
  narrow X Y X' Y' c wide high right above f z =
      poly_ext (𝓢 𝓚) Y (row O X c) (row O X' c) _ (λ j l. fun_ext (λ i. ⊎_elim
      (λ h. row_in O X c j i h ∙ sym (row_in O X' c j i (omega arith)))
      (λ h. row_out O X c j i h ∙ sym (row_zero O X' c j i (λ b. right i j b (omega arith) h)))
      (cases_lt i X)))
      ∙ sym (poly_ends (𝓢 𝓚) Y (Y' - Y) (row O X' c) (coefficients O f) (λ j l u. fun_ext (λ i. row_zero O X' c j i (λ b. above i j b (omega arith) l))))
      ∙ ap (λ n. poly (series O) n (row O X' c) (coefficients O f)) (let q : Y + (Y' - Y) ≡ Y' = omega arith in q)
      ∙ z

pub code_narrow : (F : Meaning) → Laws F → (X Y X' Y' : ℕ) (c : Table ℕ) → X ≤ X' → Y ≤ Y'
    → ((i j : ℕ) → i < X' → j < Y' → X ≤ i → c i j ≡ 0) → ((i j : ℕ) → i < X' → j < Y' → Y ≤ j → c i j ≡ 0)
    → (f : List ℕ) → Lies (codes F) X' Y' c f → Lies (codes F) X Y c f
code_narrow F L X Y X' Y' c wide high right above f z =
    lies_down F L X Y c f
    (narrow (field F L).ring X Y X' Y' (elements F L c) wide high (λ i j a b h. code_zero F L _ (right i j a b h)) (λ i j a b h. code_zero F L _ (above i j a b h)) (map (decode F L) f)
    (lies_up F L X' Y' c f z))
