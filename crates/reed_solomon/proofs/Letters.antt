-- The letters of a place, in rising order.
use Rattle.std.proofs.Common.{◌≡◌, ℕ, zero, suc, ◌+◌, ◌<◌, Bool, true, false, cond, not, ◌||◌, ltb, List, [], ◌∷◌, ◌++◌, length, sym, refl, ap, ◌∙◌, arith}
use Rattle.std.proofs.lemmas.List.{length-append}
use Rattle.std.proofs.lemmas.Bool.{and_parts, ltb-true}
use Rattle.algebra.specs.Lists.{Each, Distinct}
use Rattle.algebra.proofs.Lists.{each_map}
use Rattle.sheet.specs.Letters.{Letters, tally}
use Rattle.code.specs.Meaning.{below}
use Rattle.reed_solomon.specs.Gathered.{letters}

pub each_append : {A : Type 0} (P : A → Type 0) (xs ys : List A) → Each P xs → Each P ys → Each P (xs ++ ys)
each_append P [] ys a b = b
each_append P (x ∷ xs) ys a b = (a.0, each_append P xs ys a.1 b)

pub distinct_append : {A : Type 0} (xs ys : List A) → Distinct xs → Distinct ys → Each (λ x. Each (λ y. ¬ (x ≡ y)) ys) xs → Distinct (xs ++ ys)
distinct_append [] ys a b h = b
distinct_append (x ∷ xs) ys a b h = (each_append (λ y. ¬ (x ≡ y)) xs ys a.0 h.0, distinct_append xs ys a.1 b h.1)

-- one letter, where it stands
each_if : (P : ℕ → Type 0) (b : Bool) (n : ℕ) → (b ≡ true → P n) → Each P (cond b (n ∷ []) [])
each_if P true n h = (h refl, tt)
each_if P false n h = tt

distinct_if : (b : Bool) (n : ℕ) → Distinct (cond b (n ∷ []) [])
distinct_if true n = (tt, tt)
distinct_if false n = tt

length_if : (b : Bool) (n : ℕ) → length (cond b (n ∷ []) []) ≡ cond b 1 0
length_if true n = refl
length_if false n = refl

pub letters_count : (S : Letters) (n : ℕ) → length (letters S n) ≡ tally S n
unfolding letters tally
letters_count S zero = refl
letters_count S (suc n) =
    let a = letters_count S n in
    let b = length_if (S n) n in
    length-append (letters S n) (cond (S n) (n ∷ []) []) ∙ (let z : length (letters S n) + length (cond (S n) (n ∷ []) []) ≡ cond (S n) 1 0 + tally S n = omega arith in z)

pub letters_below : (S : Letters) (n : ℕ) → Each (λ l. l < n) (letters S n)
unfolding letters
letters_below S zero = tt
letters_below S (suc n) =
    each_append (λ l. l < suc n) (letters S n) (cond (S n) (n ∷ []) [])
    (each_map (λ l h. omega arith) (letters S n) (letters_below S n))
    (each_if (λ l. l < suc n) (S n) n (λ _. omega arith))

pub letters_low : (q : ℕ) (S : Letters) (n : ℕ) → below q n S ≡ true → Each (λ l. l < q) (letters S n)
unfolding letters below
letters_low q S zero e = tt
letters_low q S (suc n) e =
    let p = and_parts (not (S n) || ltb n q) (below q n S) e in
    each_append (λ l. l < q) (letters S n) (cond (S n) (n ∷ []) []) (letters_low q S n p.1)
    (each_if (λ l. l < q) (S n) n (λ t. ltb-true n q (sym (ap (λ z. not z || ltb n q) t) ∙ p.0)))

pub letters_apart : (S : Letters) (n : ℕ) → Distinct (letters S n)
unfolding letters
letters_apart S zero = tt
letters_apart S (suc n) =
    distinct_append (letters S n) (cond (S n) (n ∷ []) []) (letters_apart S n) (distinct_if (S n) n)
    (each_map (λ l h. each_if (λ y. ¬ (l ≡ y)) (S n) n (λ _ e. omega arith)) (letters S n) (letters_below S n))
