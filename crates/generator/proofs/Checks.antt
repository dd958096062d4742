-- Tests of all numbers below a bound, and sizes.
use Rattle.std.proofs.Common.{◌≡◌, ℕ, zero, suc, ◌+◌, ◌*◌, ◌^◌, ◌<◌, ◌≤◌, Bool, true, false, sym, ap, ◌∙◌, ⊎_elim, arith, ◌&&◌, nat_eq, List, take, drop, slice_index, refl, ap₂}
use Rattle.std.proofs.lemmas.List.{get_or-take, get_or-drop}
use native.Mathlib.Nat.{pow-le-pow_left, pow-le-pow_right}
use Rattle.std.proofs.lemmas.Bool.{and_parts, and_from, and_left, and_right, cases_eq}
use Rattle.generator.specs.Generator.{all_below, unit, unit_row, max_rows}

-- one number below n
pub all_at : (n : ℕ) (f : ℕ → Bool) → all_below n f ≡ true → (i : ℕ) → i < n → f i ≡ true
all_at zero f e i h = absurd (omega arith)
all_at (suc n) f e i h = let p = and_parts (all_below n f) (f n) e in ⊎_elim (λ q. ap f q ∙ p.1) (λ ne. all_at n f p.0 i (omega arith)) (cases_eq i n)

-- one number more
pub all_more : (n : ℕ) (f : ℕ → Bool) → all_below n f ≡ true → f n ≡ true → all_below (n + 1) f ≡ true
all_more n f e h = ap (λ z. all_below z f) (let z : n + 1 ≡ suc n = omega arith in z) ∙ and_from _ _ e h

-- one that fails
pub all_broken : (n : ℕ) (f : ℕ → Bool) (i : ℕ) → i < n → f i ≡ false → all_below n f ≡ false
all_broken zero f i h e = absurd (omega arith)
all_broken (suc n) f i h e = ⊎_elim (λ q. and_right _ _ (ap f (sym q) ∙ e)) (λ ne. and_left _ _ (all_broken n f i (omega arith) e)) (cases_eq i n)

-- the number of messages fits its type, before it is known to be within its limit
pub pow_small : (q k : ℕ) → q ≤ 256 → k ≤ max_rows → q ^ k < 2 ^ 128
pow_small q k hq hk =
    let a : q ^ k ≤ 256 ^ k = pow-le-pow_left hq k in
    let z : 0 < 256 = omega arith in
    let b : 256 ^ k ≤ 256 ^ max_rows = pow-le-pow_right z hk in
    omega arith

-- tests that agree below n
all_same : (n : ℕ) (f g : ℕ → Bool) → ((j : ℕ) → j < n → f j ≡ g j) → all_below n f ≡ all_below n g
all_same zero f g h = refl
all_same (suc n) f g h = ap₂ ◌&&◌ (all_same n f g (λ j l. h j (omega arith))) (h n (omega arith))

-- row i of a table, on the part that it fills
pub unit_row_is : (g : List ℕ) (n k i m : ℕ) → k ≤ n → m ≡ n → all_below k (λ j. nat_eq (slice_index (take m (drop (i * n) g)) j) (unit i j)) ≡ unit_row g n k i
unit_row_is g n k i m h e = all_same k _ _ (λ j l. ap (λ z. nat_eq z (unit i j)) (get_or-take m (drop (i * n) g) j 0 (omega arith) ∙ get_or-drop (i * n) g j 0))
