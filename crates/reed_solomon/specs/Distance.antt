-- Two messages whose words agree at k places are one.
use Rattle.std.specs.Prelude.{◌≡◌, ℕ, zero, suc, ◌+◌, ◌<◌, ◌≤◌, Bool, true, false, cond, ltb, List, [], ◌∷◌, map, filter, nat_eq, nat_lt, refl}
use Rattle.std.proofs.Common.{◌∙◌, arith}
use Rattle.std.proofs.lemmas.Bool.{and_parts, and_from, eqb-true, ltb-true, lt-ltb}
use Rattle.std.proofs.lemmas.List.{length-map}
use Rattle.algebra.specs.Field.{Meaning as Field, Laws}
use Rattle.algebra.specs.Polynomial.{value, value_from}
use Rattle.algebra.specs.Lists.{Each, Distinct}
use Rattle.algebra.proofs.CodeRecovery.{code_unique}
use Rattle.code.specs.Messages.{every, is_row, span}
use Rattle.code.specs.Meaning.{clean}
use Rattle.code.specs.Score.{hits}
use Rattle.code.proofs.Alone.{row_length, row_every, row_from}
use Rattle.code.proofs.Scores.{hits_points}
use Rattle.code.proofs.Spans.{span_length}
use Rattle.reed_solomon.specs.ReedSolomon.{word_at, Points}

pub every_each : (q : ℕ) (xs : List ℕ) → every (λ l. ltb l q) xs ≡ true → Each (λ c. c < q) xs
every_each q [] e = tt
every_each q (x ∷ xs) e = let p = and_parts (nat_lt x q) (every (λ l. ltb l q) xs) e in (ltb-true x q p.0, every_each q xs p.1)

-- what is kept of a list keeps what each has
each_kept : (P : ℕ → Type 0) (f : ℕ → Bool) (xs : List ℕ) → Each P xs → Each P (filter f xs)
each_kept P f [] h = tt
each_kept P f (x ∷ xs) (h, hs) = elim (f x) as (λ b. Each P (cond b (x ∷ filter f xs) (filter f xs))) [ true ↦ (h, each_kept P f xs hs) | false ↦ each_kept P f xs hs ]

apart_kept : (f : ℕ → Bool) (xs : List ℕ) → Distinct xs → Distinct (filter f xs)
apart_kept f [] h = tt
apart_kept f (x ∷ xs) (h, hs) =
    elim (f x) as (λ b. Distinct (cond b (x ∷ filter f xs) (filter f xs))) [ true ↦ (each_kept (λ y. ¬ (x ≡ y)) f xs h, apart_kept f xs hs) | false ↦ apart_kept f xs hs ]

-- and what is kept passes
pub passed : {A : Type 0} (f : A → Bool) (P : A → Type 0) → ((x : A) → f x ≡ true → P x) → (xs : List A) → Each P (filter f xs)
passed f P h [] = tt
passed f P h (x ∷ xs) =
    elim (f x) as (λ b. (b ≡ true → P x) → Each P (cond b (x ∷ filter f xs) (filter f xs))) [ true ↦ (λ g. (g refl, passed f P h xs)) | false ↦ (λ g. passed f P h xs) ] (h x)

span_above : (x a i : ℕ) → x < a → Each (λ y. ¬ (x ≡ y)) (span a i)
unfolding span
span_above x a zero h = tt
span_above x a (suc i) h = ((λ e. omega arith), span_above x (suc a) i (omega arith))

span_apart : (a i : ℕ) → Distinct (span a i)
unfolding span
span_apart a zero = tt
span_apart a (suc i) = (span_above a (suc a) i (omega arith), span_apart (suc a) i)

pub span_below : (q a i : ℕ) → a + i ≤ q → Each (λ y. y < q) (span a i)
unfolding span
span_below q a zero h = tt
span_below q a (suc i) h = (omega arith, span_below q (suc a) i (omega arith))

pub spanned : (F : Field) (n : ℕ) → n ≤ F.size → Points F n (span 0 n)
spanned F n h = record { count = span_length 0 n; below = span_below F.size 0 n (omega arith); apart = span_apart 0 n }

module _ (F : Field) (L : Laws F) (n k : ℕ) (ps : List ℕ) (points : Points F n ps) where
  pub one_message : (x y : List ℕ) → is_row k F.size x ≡ true → is_row k F.size y ≡ true
      → k ≤ hits (clean (word_at F ps x)) (word_at F ps y) → y ≡ x
  unfolding word_at
  one_message x y rx ry e =
      let agreed = filter (λ i. nat_eq (value F y i) (value F x i)) ps in
      let c = hits_points (λ i. value F x i) (λ i. value F y i) ps in
      let lx = row_length k F.size x rx in
      let ly = row_length k F.size y ry in
      code_unique F L k y x agreed (every_each F.size y (row_every k F.size y ry)) (every_each F.size x (row_every k F.size x rx))
      (each_kept (λ z. z < F.size) _ ps points.below) ly lx
      (apart_kept _ ps points.apart)
      (omega arith)
      (passed _ (λ z. value F y z ≡ value F x z) (λ z t. eqb-true _ _ t) ps)

  value_below : (x : List ℕ) (i j : ℕ) → value_from F i j x < F.size
  value_below [] i j = let h = L.two in omega arith
  value_below (c ∷ x) i j = L.sum_below _ _

  letters : (x qs : List ℕ) → every (λ l. ltb l F.size) (map (λ i. value F x i) qs) ≡ true
  letters x [] = refl
  letters x (i ∷ qs) = and_from _ _ (lt-ltb (value F x i) F.size (value_below x i 0)) (letters x qs)

  pub word_row : (x : List ℕ) → is_row n F.size (word_at F ps x) ≡ true
  unfolding word_at
  word_row x = row_from n F.size (map (λ i. value F x i) ps) (length-map ps (λ i. value F x i) ∙ points.count) (letters x ps)
