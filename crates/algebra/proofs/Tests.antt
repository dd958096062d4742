-- Tests that antt computes, and the facts that they stand for.
use Rattle.std.proofs.Common.{ℕ, zero, suc, ◌<◌, Bool, true, false, ◌&&◌, ◌||◌, T, eqb, ◌⊎◌, List, [], ◌∷◌, sym, subst, inl, inr, le_of_suc-le-suc, not-suc-le-zero, eq-or-lt_of_le, eqb→eq}
use Rattle.algebra.specs.Listed.{among}

pub and_left : (a b : Bool) → T (a && b) → T a
and_left true b t = tt
and_left false b t = t

pub and_right : (a b : Bool) → T (a && b) → T b
and_right true b t = t
and_right false b t = absurd t

pub or_cases : (a b : Bool) → T (a || b) → T a ⊎ T b
or_cases true b t = inl tt
or_cases false b t = inr t

-- The test passes at each number below n.
abbrev pub all_below : (ℕ → Bool) → ℕ → Bool
all_below f zero = true
all_below f (suc n) = f n && all_below f n

pub below_at : (f : ℕ → Bool) (n : ℕ) → T (all_below f n) → (k : ℕ) → k < n → T (f k)
below_at f zero t k h = absurd (not-suc-le-zero h)
below_at f (suc n) t k h =
    elim (eq-or-lt_of_le (le_of_suc-le-suc h)) [
      | inl e ↦ subst (λ x. T (f x)) (sym e) (and_left (f n) (all_below f n) t)
      | inr l ↦ below_at f n (and_right (f n) (all_below f n) t) k l
    ]

-- The test passes at each number of the list.
abbrev pub all_of : (ℕ → Bool) → List ℕ → Bool
all_of f [] = true
all_of f (x ∷ xs) = f x && all_of f xs

pub of_at : (f : ℕ → Bool) (xs : List ℕ) → T (all_of f xs) → (n : ℕ) → T (among n xs) → T (f n)
of_at f [] t n m = absurd m
of_at f (x ∷ xs) t n m =
    elim (or_cases (eqb n x) (among n xs) m) [
      | inl e ↦ subst (λ y. T (f y)) (sym (eqb→eq n x e)) (and_left (f x) (all_of f xs) t)
      | inr r ↦ of_at f xs (and_right (f x) (all_of f xs) t) n r
    ]
