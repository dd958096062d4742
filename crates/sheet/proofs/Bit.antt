-- Single bits of a word.
use Rattle.std.proofs.Common.{◌≡◌, ℕ, zero, suc, ◌+◌, ◌*◌, ◌/◌, ◌%◌, ◌^◌, ◌<◌, max, Bool, false, ◌||◌, eqb, List, [], ◌∷◌, length, get_or, set, sym, refl, ap, ◌∙◌, ⊎_elim, mod-lt, arith, lit<}
use mathlib.Core.Path.{fun_ext}
use native.Mathlib.Nat.{div-add-mod}
use lib.Bits.{bit_or}
use Rattle.std.specs.Int.{bit_at, w64}
use Rattle.std.proofs.lemmas.Nat.Bits.{bit_at_or, bit_at_set_same, bit_at_set_other, bit_at-lt, bit_at-zero}
use Rattle.std.proofs.lemmas.Bool.{eq-eqb, ne_eqb, cases_eq, or_left}
use Rattle.std.proofs.lemmas.List.{get_or-set_same, get_or-set_other, get_or_past}
use Rattle.sheet.specs.Letters.{none, join, union}
use Rattle.sheet.specs.Standing.{marked}

zeros : (i : ℕ) → ◌≡◌ {A = ℕ} (get_or (0 ∷ 0 ∷ 0 ∷ 0 ∷ []) i 0) 0
zeros zero = refl
zeros (suc zero) = refl
zeros (suc (suc zero)) = refl
zeros (suc (suc (suc zero))) = refl
zeros (suc (suc (suc (suc i)))) = refl

pub clear_none : marked (0 ∷ 0 ∷ 0 ∷ 0 ∷ []) ≡ none
unfolding marked
clear_none = fun_ext (λ l. ap (λ w. eqb (bit_at w (l % 64)) 1) (zeros (l / 64)) ∙ ap (λ b. eqb b 1) (bit_at-zero (l % 64)))

or_false : (b c : Bool) → b ≡ false → c ≡ (b || c)
or_false b c e = ap (λ x. x || c) (sym e)

module _ (words : List ℕ) (l : ℕ) (inside : l / 64 < length words) where
  within : l % 64 < 64
  within = mod-lt l (lit< tt)

  -- the word of the letter, after the letter joined
  abbrev pub joined : ℕ
  joined = bit_or (get_or words (l / 64) 0) (1 * 2 ^ (l % 64) % 2 ^ 64)

  abbrev pub changed : List ℕ
  changed = set words (l / 64) joined

  at_word : (j : ℕ) → j / 64 ≡ l / 64 → get_or changed (j / 64) 0 ≡ joined
  at_word j e = ap (λ i. get_or changed i 0) e ∙ get_or-set_same words (l / 64) _ 0 inside

  here : (j : ℕ) → j ≡ l → bit_at (get_or changed (j / 64) 0) (j % 64) ≡ 1
  here j e = ap (λ w. bit_at w (j % 64)) (at_word j (ap (λ x. x / 64) e)) ∙ ap (λ x. bit_at joined (x % 64)) e ∙ bit_at_set_same w64 (get_or words (l / 64) 0) (l % 64) within

  there : (j : ℕ) → (j ≡ l → ⊥) → bit_at (get_or changed (j / 64) 0) (j % 64) ≡ bit_at (get_or words (j / 64) 0) (j % 64)
  there j ne =
      ⊎_elim
      (λ e.
      let apart : j % 64 ≡ l % 64 → ⊥ = λ same. ne (sym (div-add-mod j 64) ∙ ap (λ x. 64 * x + j % 64) e ∙ ap (λ x. 64 * (l / 64) + x) same ∙ div-add-mod l 64) in
      ap (λ w. bit_at w (j % 64)) (at_word j e) ∙ bit_at_set_other w64 (get_or words (l / 64) 0) (l % 64) within (j % 64) apart ∙ ap (λ i. bit_at (get_or words i 0) (j % 64)) (sym e))
      (λ d. ap (λ w. bit_at w (j % 64)) (get_or-set_other words (l / 64) (j / 64) _ 0 d))
      (cases_eq (j / 64) (l / 64))

  pub inserted : marked changed ≡ join l (marked words)
  unfolding marked
  inserted =
      fun_ext (λ j.
      ⊎_elim
      (λ e. ap (λ b. eqb b 1) (here j e) ∙ sym (or_left (eqb j l) _ (eq-eqb j l e)))
      (λ ne. ap (λ b. eqb b 1) (there j ne) ∙ or_false (eqb j l) _ (ne_eqb j l ne))
      (cases_eq j l))

-- word by word, the words of a union
four_or : (u v : List ℕ) → length u ≡ 4 → length v ≡ 4 → (i : ℕ)
    → get_or (bit_or (get_or u 0 0) (get_or v 0 0) ∷ bit_or (get_or u 1 0) (get_or v 1 0) ∷ bit_or (get_or u 2 0) (get_or v 2 0) ∷ bit_or (get_or u 3 0) (get_or v 3 0) ∷ []) i 0 ≡ bit_or (get_or u i 0) (get_or v i 0)
four_or u v hu hv zero = refl
four_or u v hu hv (suc zero) = refl
four_or u v hu hv (suc (suc zero)) = refl
four_or u v hu hv (suc (suc (suc zero))) = refl
four_or u v hu hv (suc (suc (suc (suc i)))) =
    sym (ap (λ x. bit_or x (get_or v (suc (suc (suc (suc i)))) 0)) (get_or_past u (suc (suc (suc (suc i)))) 0 (omega arith))
    ∙ ap (bit_or 0) (get_or_past v (suc (suc (suc (suc i)))) 0 (omega arith)))

either_bit : (x y : ℕ) → x < 2 → y < 2 → eqb (max x y) 1 ≡ (eqb x 1 || eqb y 1)
either_bit zero zero h k = refl
either_bit zero (suc zero) h k = refl
either_bit (suc zero) zero h k = refl
either_bit (suc zero) (suc zero) h k = refl
either_bit x (suc (suc y)) h k = absurd (omega arith)
either_bit (suc (suc x)) y h k = absurd (omega arith)

pub united : (u v : List ℕ) → length u ≡ 4 → length v ≡ 4
    → marked (bit_or (get_or u 0 0) (get_or v 0 0) ∷ bit_or (get_or u 1 0) (get_or v 1 0) ∷ bit_or (get_or u 2 0) (get_or v 2 0) ∷ bit_or (get_or u 3 0) (get_or v 3 0) ∷ []) ≡ union (marked u) (marked v)
unfolding marked
united u v hu hv =
    fun_ext (λ l.
    ap (λ w. eqb (bit_at w (l % 64)) 1) (four_or u v hu hv (l / 64))
    ∙ ap (λ b. eqb b 1) (bit_at_or (get_or u (l / 64) 0) (get_or v (l / 64) 0) (l % 64))
    ∙ either_bit _ _ (bit_at-lt (get_or u (l / 64) 0) (l % 64)) (bit_at-lt (get_or v (l / 64) 0) (l % 64)))
