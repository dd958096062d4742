-- The number of letters, by the ones of the words.
use Rattle.std.proofs.Common.{◌≡◌, ℕ, zero, suc, ◌+◌, ◌*◌, ◌/◌, ◌%◌, ◌^◌, ◌<◌, ◌≤◌, Bool, true, false, cond, eqb, List, [], ◌∷◌, length, get_or, sym, refl, ap, ◌∙◌, add-zero, add_assoc, add-suc, mod-lt, mod-eq_of_lt, one-add, arith, lit<}
use native.Mathlib.Nat.{mod-one}
use lib.Count.{ones, ones_cat}
use lib.Arith.{digits_div, digits_mod}
use lib.Pow.{mod-pow-add}
use Rattle.std.proofs.lemmas.Nat.{pow_pos}
use Rattle.sheet.specs.Letters.{Letters, Sheet, tally, size, weight}
use Rattle.std.proofs.lemmas.List.Sums.{sum_by-cons}
use Rattle.sheet.specs.Standing.{marked}

ones_bit : (a : ℕ) → a < 2 → ones a ≡ cond (eqb a 1) 1 0
unfolding ones
ones_bit zero h = refl
ones_bit (suc zero) h = refl
ones_bit (suc (suc a)) h = absurd (omega arith)

pub tally_ones : (w n : ℕ) → tally (λ i. eqb (w / 2 ^ i % 2) 1) n ≡ ones (w % 2 ^ n)
unfolding tally ones
tally_ones w zero = ap ones (sym (mod-one w))
tally_ones w (suc n) =
    ap (λ x. cond (eqb (w / 2 ^ n % 2) 1) 1 0 + x) (tally_ones w n)
    ∙ ap (λ x. x + ones (w % 2 ^ n)) (sym (ones_bit (w / 2 ^ n % 2) (mod-lt (w / 2 ^ n) (lit< tt))))
    ∙ sym (ones_cat n (w / 2 ^ n % 2) (w % 2 ^ n) (mod-lt w (pow_pos n)))
    ∙ ap ones (sym (mod-pow-add w 1 n))
    ∙ ap (λ x. ones (w % 2 ^ x)) (one-add n)

tally_ext : (s t : Letters) (n : ℕ) → ((i : ℕ) → i < n → s i ≡ t i) → tally s n ≡ tally t n
unfolding tally
tally_ext s t zero h = refl
tally_ext s t (suc n) h =
    ap (λ b. cond b 1 0 + tally s n) (h n (omega arith)) ∙ ap (λ x. cond (t n) 1 0 + x) (tally_ext s t n (λ i lt. h i (omega arith)))

tally_add : (s : Letters) (a n : ℕ) → tally s (a + n) ≡ tally (λ i. s (a + i)) n + tally s a
unfolding tally
tally_add s a zero = ap (tally s) (add-zero a) ∙ (let e : tally s a ≡ 0 + tally s a = omega arith in e)
tally_add s a (suc n) =
    ap (tally s) (add-suc a n) ∙ ap (λ x. cond (s (a + n)) 1 0 + x) (tally_add s a n) ∙ sym (add_assoc (cond (s (a + n)) 1 0) _ _)

-- the letters of one word
word : (ws : List ℕ) (j : ℕ) → get_or ws j 0 < 2 ^ 64 → tally (λ i. marked ws (j * 64 + i)) 64 ≡ ones (get_or ws j 0)
unfolding marked
word ws j h =
    tally_ext _ (λ i. eqb (get_or ws j 0 / 2 ^ i % 2) 1) 64
    (λ i lt. ap (λ x. eqb (get_or ws x 0 / 2 ^ ((j * 64 + i) % 64) % 2) 1) (digits_div j lt) ∙ ap (λ x. eqb (get_or ws j 0 / 2 ^ x % 2) 1) (digits_mod j lt))
    ∙ tally_ones (get_or ws j 0) 64 ∙ ap ones (mod-eq_of_lt h)

one_at_most : (b : Bool) → cond b 1 0 ≤ 1
one_at_most true = omega arith
one_at_most false = omega arith

tally_none : (s : Letters) → tally s 0 ≡ 0
unfolding tally
tally_none s = refl

four : (a b c d z t1 t2 t3 t4 : ℕ) {a' b' c' d' : ℕ} → a ≡ a' → b ≡ b' → c ≡ c' → d ≡ d' → z ≡ 0 → t1 ≡ a' + z → t2 ≡ b' + t1 → t3 ≡ c' + t2 → t4 ≡ d' + t3 → a + b + c + d ≡ t4
four a b c d z t1 t2 t3 t4 ea eb ec ed ez e1 e2 e3 e4 = omega arith

module _ (ws : List ℕ) (h0 : get_or ws 0 0 < 2 ^ 64) (h1 : get_or ws 1 0 < 2 ^ 64) (h2 : get_or ws 2 0 < 2 ^ 64) (h3 : get_or ws 3 0 < 2 ^ 64) where
  pub size_ones : ones (get_or ws 0 0) + ones (get_or ws 1 0) + ones (get_or ws 2 0) + ones (get_or ws 3 0) ≡ size (marked ws)
  unfolding size
  size_ones = four _ _ _ _ _ _ _ _ _ (sym (word ws 0 h0)) (sym (word ws 1 h1)) (sym (word ws 2 h2)) (sym (word ws 3 h3)) (tally_none (marked ws)) (tally_add (marked ws) 0 64) (tally_add (marked ws) 64 64) (tally_add (marked ws) 128 64) (tally_add (marked ws) 192 64)

tally_le : (s : Letters) (n : ℕ) → tally s n ≤ n
unfolding tally
tally_le s zero = omega arith
tally_le s (suc n) = let h = tally_le s n in let c = one_at_most (s n) in omega arith

pub size_le : (s : Letters) → size s ≤ 256
unfolding size
size_le s = tally_le s 256

-- no place has more than 256 letters
pub weight_le : (s : Sheet) → weight s ≤ 256 * length s
weight_le [] = omega arith
weight_le (S ∷ s) = let h = weight_le s in let z = size_le S in let e = sum_by-cons size S s in omega arith
