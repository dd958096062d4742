-- On a curve that is not zero lie fewer polynomials than it has rows:
-- they are roots of a polynomial in y over the power series in x, in which a factor that is not zero may be taken away.
use Rattle.std.proofs.Common.{◌≡◌, ℕ, zero, suc, ◌<◌, ◌≤◌, List, [], ◌∷◌, map, length, sym, refl, ◌∙◌, arith}
use mathlib.Core.Path.{fun_ext}
use native.Mathlib.Decide.{dec_le}
use Rattle.algebra.specs.Ring.{Ops, Field}
use Rattle.algebra.specs.Series.{AllZero, tail, coefficients, series}
use Rattle.algebra.specs.Curve.{row, ZeroAt}
use Rattle.algebra.specs.Recovery.{Few}
use Rattle.algebra.proofs.Ring.{add_cancel, divide}
use Rattle.algebra.proofs.Lists.{each_map, each_over, each_at, distinct_map, length_map, tab, length_tab}
use Rattle.algebra.proofs.Series.{𝓢, low_right}
use Rattle.algebra.proofs.Division.{Order, vanish}
use Rattle.algebra.proofs.Horner.{ev_tab}
use Rattle.algebra.proofs.Rows.{row_in}

module _ {K : Type 0} (O : Ops K) where
  coefficients_tell : (f g : List K) → length f ≡ length g → ((n : ℕ) → coefficients O f n ≡ coefficients O g n) → f ≡ g
  coefficients_tell [] [] l h = refl
  coefficients_tell [] (d ∷ g) l h = absurd (omega arith)
  coefficients_tell (c ∷ f) [] l h = absurd (omega arith)
  coefficients_tell (c ∷ f) (d ∷ g) l h = λ i. h 0 i ∷ coefficients_tell f g (omega arith) (λ n. h (suc n)) i

module _ {K : Type 0} (𝓕 : Field K) where
  infixl 60 ◌⊕◌
  infixl 70 ◌⊗◌ ◌⊠◌
  open 𝓕 use {ring as 𝓚, same}
  open 𝓚 use {ops as O}
  open 𝓚.ops use {zero as 𝟘, add as ◌⊕◌, mul as ◌⊗◌}
  open (𝓢 𝓚).ops use {zero as ∅, mul as ◌⊠◌}

  -- A series with a constant coefficient that is not zero may be taken away, coefficient by coefficient.
  lead : (d : ℕ → K) → ¬ (d 0 ≡ 𝟘) → (m : ℕ) (a b : ℕ → K) → ((n : ℕ) → (a ⊠ d) n ≡ (b ⊠ d) n) → a m ≡ b m
  lead d z zero a b h = divide 𝓕 (a 0) (b 0) (d 0) z (h 0)
  lead d z (suc m) a b h =
      lead d z m (tail a) (tail b) λ n.
      step (a 0) (b 0) (d (suc n)) ((tail a ⊠ d) n) ((tail b ⊠ d) n) (divide 𝓕 (a 0) (b 0) (d 0) z (h 0)) (h (suc n))
    where
      step : (p q e x y : K) → p ≡ q → p ⊗ e ⊕ x ≡ q ⊗ e ⊕ y → x ≡ y
      step p q e x y u k =
          add_cancel 𝓚 x y (p ⊗ e) (𝓚.add_comm x (p ⊗ e) ∙ k ∙ (λ i. sym u i ⊗ e ⊕ y) ∙ 𝓚.add_comm (p ⊗ e) y)

  some_lead : (k : ℕ) (d : ℕ → K) → ¬ (d k ≡ 𝟘) → (a b : ℕ → K) → ((n : ℕ) → (a ⊠ d) n ≡ (b ⊠ d) n) → (m : ℕ) → a m ≡ b m
  some_lead zero d z a b h m = lead d z m a b h
  some_lead (suc k) d z a b h m = go (λ h'. some_lead k (tail d) z a b h' m) (same (d 0) 𝟘)
    where
      go : (((n : ℕ) → (a ⊠ tail d) n ≡ (b ⊠ tail d) n) → a m ≡ b m) → Dec (d 0 ≡ 𝟘) → a m ≡ b m
      go next (yes e) = next (λ n. sym (low_right 𝓚 a d e n) ∙ h (suc n) ∙ low_right 𝓚 b d e n)
      go next (no e) = lead d e m a b h

  cancel_series : (a b d : ℕ → K) → a ⊠ d ≡ b ⊠ d → ¬ (a ≡ b) → d ≡ ∅
  cancel_series a b d e n =
      fun_ext λ k. elim (same (d k) 𝟘) [ yes h ↦ h | no h ↦ absurd (n (fun_ext (some_lead k d h a b (λ m i. e i m)))) ]

  -- A polynomial as a series.
  abbrev s : List K → ℕ → K
  s = coefficients O

  pub few : (Y : ℕ) → Few 𝓕 Y Y
  unfolding ZeroAt
  few Y X k c fs nz l d t = go (dec_le Y (length fs))
    where
      all_zero : Y ≤ length fs → AllZero (series O) (tab Y (row O X c))
      all_zero h =
          vanish (𝓢 𝓚) cancel_series (map s fs) 1 (tab Y (row O X c))
          (distinct_map (λ f. length f ≡ k) s fs (λ f g a b e. coefficients_tell O f g (a ∙ sym b) (λ n i. e i n)) l d)
          (each_over (λ y. Order (series O) y 1 (tab Y (row O X c))) s fs
          (each_map (λ f e. (ev_tab (𝓢 𝓚) Y (row O X c) (s f) ∙ e, tt)) fs t))
          (omega (arith, length_map s fs, length_tab Y (row O X c)))

      go : Dec (Y ≤ length fs) → length fs < Y
      go (yes h) =
          absurd (nz.4 (sym (row_in O X c nz.1 nz.0 nz.2)
          ∙ (λ i. each_at (λ q. q ≡ ∅) Y (row O X c) (all_zero h) nz.1 nz.3 i nz.0)))
      go (no h) = omega arith
