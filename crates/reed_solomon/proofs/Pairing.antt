-- The pairs of a sheet: how many they are, that no two are equal, and how a polynomial scores on them.
use Rattle.std.proofs.Common.{◌≡◌, ℕ, zero, suc, ◌+◌, ◌<◌, ◌≤◌, Bool, true, false, cond, eqb, List, [], ◌∷◌, ◌++◌, length, get_or, sym, refl, ap, ◌∙◌, subst, ap₂, ⊎_elim, arith}
use Rattle.std.proofs.lemmas.List.{length-append, length-map, get_or-map, map-append}
use Rattle.std.proofs.lemmas.List.Sums.{sum_by-cons}
use Rattle.std.proofs.lemmas.Bool.{and_parts, eq-eqb, ne_eqb, cases_eq}
use Rattle.algebra.specs.Field.{Meaning as Field, Laws}
use Rattle.algebra.specs.Lists.{Each, Distinct}
use Rattle.algebra.specs.Polynomial.{value, value_from, power}
use Rattle.algebra.specs.CodeRecovery.{Pairs, passed, score}
use Rattle.algebra.proofs.Lists.{each_map, each_over, distinct_map}
use Rattle.sheet.specs.Letters.{Letters, Sheet, size, weight}
use Rattle.code.specs.Messages.{every}
use Rattle.code.specs.Meaning.{below}
use Rattle.code.specs.Score.{hits}
use Rattle.reed_solomon.specs.ReedSolomon.{word_at}
use Rattle.reed_solomon.specs.Gathered.{letters, at_point, pairs_of, points_of, letters_of}
use Rattle.reed_solomon.proofs.Letters.{each_append, distinct_append, letters_count, letters_low, letters_apart}

-- as many as letters stand
pub pairs_count : (points : List ℕ) (s : Sheet) → length points ≡ length s → length (pairs_of points s) ≡ weight s
unfolding pairs_of size
pairs_count [] [] e = refl
pairs_count [] (S ∷ s) e = absurd (omega arith)
pairs_count (x ∷ points) [] e = absurd (omega arith)
pairs_count (x ∷ points) (S ∷ s) e =
    length-append (at_point x (letters S 256)) (pairs_of points s)
    ∙ ap₂ ◌+◌ (length-map (letters S 256) (λ l. (x, l)) ∙ letters_count S 256) (pairs_count points s (omega arith))
    ∙ sym (sum_by-cons size S s)

-- what holds of every point holds of every pair's
pub of_points : (P : ℕ → Type 0) (points : List ℕ) (s : Sheet) → Each P points → Each (λ p. P p.0) (pairs_of points s)
unfolding pairs_of
of_points P [] s h = tt
of_points P (x ∷ points) [] h = tt
of_points P (x ∷ points) (S ∷ s) h =
    each_append (λ p. P p.0) (at_point x (letters S 256)) (pairs_of points s)
    (each_over (λ p. P p.0) (λ l. (x, l)) (letters S 256) (all (letters S 256))) (of_points P points s h.1)
  where
    all : (ls : List ℕ) → Each (λ l. P x) ls
    all [] = tt
    all (l ∷ ls) = (h.0, all ls)

of_letters : (q : ℕ) (points : List ℕ) (s : Sheet) → every (below q 256) s ≡ true → Each (λ p. p.1 < q) (pairs_of points s)
unfolding pairs_of
of_letters q [] s e = tt
of_letters q (x ∷ points) [] e = tt
of_letters q (x ∷ points) (S ∷ s) e =
    let p = and_parts (below q 256 S) (every (below q 256) s) e in
    each_append (λ p. p.1 < q) (at_point x (letters S 256)) (pairs_of points s)
    (each_over (λ p. p.1 < q) (λ l. (x, l)) (letters S 256) (letters_low q S 256 p.0)) (of_letters q points s p.1)

unit_each : {A : Type 0} (l : List A) → Each (λ _. Unit {0}) l
unit_each [] = tt
unit_each (x ∷ l) = (tt, unit_each l)

-- no pair stands twice
pairs_apart : (points : List ℕ) (s : Sheet) → Distinct points → Distinct (pairs_of points s)
unfolding pairs_of
pairs_apart [] s a = tt
pairs_apart (x ∷ points) [] a = tt
pairs_apart (x ∷ points) (S ∷ s) a =
    distinct_append (at_point x (letters S 256)) (pairs_of points s)
    (distinct_map (λ _. Unit {0}) (λ l. (x, l)) (letters S 256) (λ l m _ _ e. ap (λ (p : ℕ × ℕ). p.1) e) (unit_each (letters S 256)) (letters_apart S 256))
    (pairs_apart points s a.1)
    (each_over (λ p. Each (λ r. ¬ (p ≡ r)) (pairs_of points s)) (λ l. (x, l)) (letters S 256)
    (each_map (λ l _. each_map (λ r ne e. ne (ap (λ (p : ℕ × ℕ). p.0) e)) (pairs_of points s) (of_points (λ y. ¬ (x ≡ y)) points s a.0)) (letters S 256) (unit_each (letters S 256))))

each_get_or : {A : Type 0} (P : A → Type 0) (l : List A) (d : A) → Each P l → (i : ℕ) → i < length l → P (get_or l i d)
each_get_or P [] d e i h = absurd (omega arith)
each_get_or P (x ∷ l) d e zero h = e.0
each_get_or P (x ∷ l) d e (suc i) h = each_get_or P l d e.1 i (omega arith)

distinct_get_or : {A : Type 0} (l : List A) (d : A) → Distinct l → (i j : ℕ) → i < j → j < length l → get_or l i d ≡ get_or l j d → ⊥
distinct_get_or [] d e i j o h = absurd (omega arith)
distinct_get_or (x ∷ l) d e i zero o h = absurd (omega arith)
distinct_get_or (x ∷ l) d e zero (suc j) o h = each_get_or (λ y. ¬ (x ≡ y)) l d e.0 j (omega arith)
distinct_get_or (x ∷ l) d e (suc i) (suc j) o h = distinct_get_or l d e.1 i j (omega arith) (omega arith)

-- different pairs of codes
pub sheet_pairs : (F : Field) (points : List ℕ) (s : Sheet) → Each (λ x. x < F.size) points → Distinct points → every (below F.size 256) s ≡ true
    → Pairs F (points_of (pairs_of points s)) (letters_of (pairs_of points s))
sheet_pairs F points s low apart fits =
    let P = pairs_of points s in
    let ex = length-map P (λ (p : ℕ × ℕ). p.0) in
    let ey = length-map P (λ (p : ℕ × ℕ). p.1) in
    let gx = λ (i : ℕ) (h : i < length P). get_or-map (λ (p : ℕ × ℕ). p.0) P i (0, 0) 0 h in
    let gy = λ (i : ℕ) (h : i < length P). get_or-map (λ (p : ℕ × ℕ). p.1) P i (0, 0) 0 h in
    record {
      same = ex ∙ sym ey;
      low_x = λ i h. let j : i < length P = omega (arith, ex, h) in subst (λ z. z < F.size) (sym (gx i j)) (each_get_or (λ p. p.0 < F.size) P (0, 0) (of_points (λ x. x < F.size) points s low) i j);
      low_y = λ i h. let j : i < length P = omega (arith, ex, h) in subst (λ z. z < F.size) (sym (gy i j)) (each_get_or (λ p. p.1 < F.size) P (0, 0) (of_letters F.size points s fits) i j);
      apart = λ i j o h a b.
          let hj : j < length P = omega (arith, ex, h) in
          let hi : i < length P = omega (arith, ex, h) in
          let a' = sym (gx i hi) ∙ a ∙ gx j hj in
          let b' = sym (gy i hi) ∙ b ∙ gy j hj in
          distinct_get_or P (0, 0) (pairs_apart points s apart) i j o hj (λ k. (a' k, b' k));
    }

-- the sum of the first n, from the front
front : (ℕ → ℕ) → ℕ → ℕ
front h zero = 0
front h (suc n) = h 0 + front (λ i. h (suc i)) n

front_more : (h : ℕ → ℕ) (n : ℕ) → front h (suc n) ≡ front h n + h n
unfolding front
front_more h zero = omega arith
front_more h (suc n) = let e = front_more (λ i. h (suc i)) n in omega arith

module _ (F : Field) (L : Laws F) (g : List ℕ) where
  one : ℕ × ℕ → ℕ
  one p = cond (eqb (value F g p.0) p.1) 1 0

  -- how many of a list of pairs g passes through
  count : List (ℕ × ℕ) → ℕ
  count [] = 0
  count (p ∷ ps) = one p + count ps

  abbrev hit : List (ℕ × ℕ) → ℕ → ℕ
  hit ps i = cond (eqb (value F g (get_or (points_of ps) i 0)) (get_or (letters_of ps) i 0)) 1 0

  passed_front : (ps : List (ℕ × ℕ)) (n : ℕ) → passed F g (points_of ps) (letters_of ps) n ≡ front (hit ps) n
  unfolding front
  passed_front ps zero = refl
  passed_front ps (suc n) = ap (λ z. z + hit ps n) (passed_front ps n) ∙ sym (front_more (hit ps) n)

  front_count : (ps : List (ℕ × ℕ)) → front (hit ps) (length (points_of ps)) ≡ count ps
  unfolding count one front
  front_count [] = refl
  front_count (p ∷ ps) = ap (λ z. cond (eqb (value F g p.0) p.1) 1 0 + z) (front_count ps)

  count_append : (ps rs : List (ℕ × ℕ)) → count (ps ++ rs) ≡ count ps + count rs
  unfolding count
  count_append [] rs = let z : count rs ≡ 0 + count rs = omega arith in z
  count_append (p ∷ ps) rs = let r = count_append ps rs in let z : one p + count (ps ++ rs) ≡ one p + count ps + count rs = omega arith in z

  count_if : (b : Bool) (x n : ℕ) → count (at_point x (cond b (n ∷ []) [])) ≡ cond b (one (x, n)) 0
  unfolding count
  count_if true x n = let z : one (x, n) + 0 ≡ one (x, n) = omega arith in z
  count_if false x n = refl

  none : (b : Bool) (z : ℕ) → z ≡ 0 → cond b z 0 ≡ 0
  none true z e = e
  none false z e = refl

  count_more : (x : ℕ) (S : Letters) (n : ℕ) → count (at_point x (letters S (suc n))) ≡ count (at_point x (letters S n)) + cond (S n) (one (x, n)) 0
  unfolding letters
  count_more x S n = ap count (map-append (λ l. (x, l)) (letters S n) (cond (S n) (n ∷ []) [])) ∙ count_append (at_point x (letters S n)) _ ∙ ap (λ z. count (at_point x (letters S n)) + z) (count_if (S n) x n)

  -- below the value no letter is hit, and past it just the value, where it stands
  before : (x : ℕ) (S : Letters) (n : ℕ) → n ≤ value F g x → count (at_point x (letters S n)) ≡ 0
  unfolding letters count one
  before x S zero h = refl
  before x S (suc n) h =
      let r = before x S n (omega arith) in
      let q = none (S n) (one (x, n)) (ap (λ z. cond z 1 0) (ne_eqb (value F g x) n (λ e. omega arith))) in
      count_more x S n ∙ (let z : count (at_point x (letters S n)) + cond (S n) (one (x, n)) 0 ≡ 0 = omega arith in z)

  past : (x : ℕ) (S : Letters) (n : ℕ) → value F g x < n → count (at_point x (letters S n)) ≡ cond (S (value F g x)) 1 0
  unfolding one
  past x S zero h = absurd (omega arith)
  past x S (suc n) h =
      count_more x S n
      ∙ ⊎_elim
      (λ e. let a = before x S n (omega arith) in
      let b : cond (S n) (one (x, n)) 0 ≡ cond (S n) 1 0 = ap (λ z. cond (S n) (cond z 1 0) 0) (eq-eqb (value F g x) n e) in
      let z : count (at_point x (letters S n)) + cond (S n) (one (x, n)) 0 ≡ cond (S n) 1 0 = omega arith in
      z ∙ ap (λ k. cond (S k) 1 0) (sym e))
      (λ ne. let a = past x S n (omega arith) in
      let b = none (S n) (one (x, n)) (ap (λ z. cond z 1 0) (ne_eqb (value F g x) n ne)) in
      let z : count (at_point x (letters S n)) + cond (S n) (one (x, n)) 0 ≡ cond (S (value F g x)) 1 0 = omega arith in z)
      (cases_eq (value F g x) n)

  value_low : (cs : List ℕ) (x j : ℕ) → value_from F x j cs < 256
  value_low [] x j = omega arith
  value_low (c ∷ cs) x j = let a = L.sum_below (F.product c (power F x j)) (value_from F x (suc j) cs) in let b = L.small in omega arith

  pairs_hit : (points : List ℕ) (s : Sheet) → count (pairs_of points s) ≡ hits s (word_at F points g)
  unfolding pairs_of count word_at
  pairs_hit [] [] = refl
  pairs_hit [] (S ∷ s) = refl
  pairs_hit (x ∷ points) [] = refl
  pairs_hit (x ∷ points) (S ∷ s) = count_append (at_point x (letters S 256)) (pairs_of points s) ∙ ap₂ ◌+◌ (past x S 256 (value_low g x 0)) (pairs_hit points s)

  -- a polynomial passes through as many pairs as its word has letters that stand
  pub score_is : (points : List ℕ) (s : Sheet) → score F (points_of (pairs_of points s)) (letters_of (pairs_of points s)) g ≡ hits s (word_at F points g)
  unfolding score
  score_is points s = passed_front (pairs_of points s) (length (points_of (pairs_of points s))) ∙ front_count (pairs_of points s) ∙ pairs_hit points s
