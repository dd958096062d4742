-- The smallest number that passes a test.
use Rattle.std.proofs.Common.{◌≡◌, ℕ, zero, suc, ◌+◌, ◌<◌, ◌≤◌, Bool, true, false, Some, sym, ap, ◌∙◌, ⊎_elim, arith}
use Rattle.std.proofs.lemmas.Bool.{cond-true, cond-false, cases_Bool, cases_eq, both_ways}
use Rattle.counting.specs.Counting.{smallest}

-- the smallest that passes, where one does
pub record First (test : ℕ → Bool) (b left t : ℕ) : Type 0 where
  pub low : b ≤ t
  pub high : t < b + left
  pub passes : test t ≡ true
  pub before : (u : ℕ) → b ≤ u → u < t → test u ≡ false

pub first_is : (test : ℕ → Bool) (b left t : ℕ) → First test b left t → smallest test b left ≡ Some t
first_is test b zero t f = absurd (let l = f.low in let h = f.high in omega arith)
first_is test b (suc left) t f =
    ⊎_elim
    (λ q. cond-true (test b) _ _ (ap test q ∙ f.passes) ∙ ap Some q)
    (λ n.
    let l = f.low in
    let h = f.high in
    cond-false (test b) _ _ (f.before b (omega arith) (omega arith))
    ∙ first_is test (suc b) left t (record { low = omega arith; high = omega arith; passes = f.passes; before = λ u lo hi. f.before u (omega arith) hi }))
    (cases_eq b t)

-- there is a first where some number passes
pub find_first : (test : ℕ → Bool) (b left i : ℕ) → b ≤ i → i < b + left → test i ≡ true → (t : ℕ) × First test b left t
find_first test b zero i lo hi e = absurd (omega arith)
find_first test b (suc left) i lo hi e =
    ⊎_elim
    (λ y. (b, record { low = omega arith; high = omega arith; passes = y; before = λ u l h. absurd (omega arith) }))
    (λ n.
    let ne : b ≡ i → ⊥ = λ q. both_ways (test b) n (ap test q ∙ e) in
    let r = find_first test (suc b) left i (omega arith) (omega arith) e in
    let f = r.1 in
    let l = f.low in
    let h = f.high in (
      r.0,
      record {
        low = omega arith;
        high = omega arith;
        passes = f.passes;
        before = λ u lo hi. ⊎_elim (λ q. ap test (sym q) ∙ n) (λ d. f.before u (omega arith) hi) (cases_eq b u);
      },
    ))
    (cases_Bool (test b))

-- what is found passes, and lies where it was looked for
pub smallest_passes : (test : ℕ → Bool) (b left t : ℕ) → smallest test b left ≡ Some t → (test t ≡ true) × (b ≤ t) × (t < b + left)
smallest_passes test b zero t e = absurd (let z : ◌≡◌ {A = ℕ} 0 1 = cc in omega arith)
smallest_passes test b (suc left) t e =
    ⊎_elim
    (λ y. let here = cond-true (test b) (Some b) (smallest test (suc b) left) y in let q : b ≡ t = cc in (ap test (sym q) ∙ y, omega arith, omega arith))
    (λ n.
    let r = smallest_passes test (suc b) left t (sym (cond-false (test b) (Some b) (smallest test (suc b) left) n) ∙ e) in
    (r.0, omega (arith, r.1), omega (arith, r.2)))
    (cases_Bool (test b))
