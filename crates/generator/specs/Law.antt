-- A generator code keeps the listing rule: two words that agree at more than n - d places are of the same message.
use Rattle.std.specs.Prelude.{◌≡◌, ℕ, ◌+◌, ◌-◌, ◌<◌, ◌≤◌, true, false, not, List, [], ◌∷◌, map, filter, nat_le, nat_lt, slice_index, refl}
use Rattle.std.proofs.Math.Path.{sym}
use Rattle.std.proofs.Common.{ap, ◌∙◌, ⊎_elim}
use native.Mathlib.Omega.{arith}
use Rattle.std.proofs.lemmas.List.{length-map}
use Rattle.std.proofs.lemmas.Bool.{le-leb, leb-true, cases_Bool, not_from_false, not-true, and_from, lt-ltb}
use Rattle.algebra.specs.Field.{Meaning as Field}
use Rattle.generator.specs.Ring.{RingLaws}
use Rattle.code.specs.Meaning.{listing, clean}
use Rattle.code.specs.Messages.{every, is_row, span, messages}
use Rattle.code.specs.Rule.{ListingRule}
use Rattle.code.specs.Score.{hits}
use Rattle.code.proofs.Alone.{kept_one, row_length, row_every, row_from}
use Rattle.code.proofs.Scores.{hits_self}
use Rattle.code.proofs.Spans.{span_length}
use Rattle.generator.specs.Generator.{gen_meaning, gen_word, gen_distance, letter, entry, column, nonzeros, blank, Table}
use Rattle.code.proofs.Members.{row_in, in_kept, kept_in, in_row}
use Rattle.generator.specs.Fewest.{fewest_le, fewest_base, fewest_low}
use Rattle.generator.specs.Linear as lin

module _ (F : Field) (laws : RingLaws F) (g : List ℕ) (n k : ℕ) (fit : Table F g n k) where
  column_fits : (j i : ℕ) → entry g n i j < F.size
  column_fits j i = fit.letters _

  letters_fit : (x ps : List ℕ) → every (λ l. nat_lt l F.size) (map (λ j. letter F g n x j) ps) ≡ true
  letters_fit x [] = refl
  letters_fit x (j ∷ ps) = and_from _ _ (lt-ltb (letter F g n x j) F.size (lin.sum_below F laws (column g n j) 0 x)) (letters_fit x ps)

  -- a word has n letters below the size
  pub word_row : (x : List ℕ) → is_row n F.size (gen_word F g n x) ≡ true
  unfolding gen_word
  word_row x = row_from n F.size (map (λ j. letter F g n x j) (span 0 n)) (length-map (span 0 n) _ ∙ span_length 0 n) (letters_fit x (span 0 n))

  -- the word of a nonzero message has a nonzero letter
  some_letter : (x : List ℕ) → is_row k F.size x ≡ true → blank x ≡ false → 1 ≤ nonzeros (gen_word F g n x)
  unfolding gen_word
  some_letter x r b =
      let w = lin.not_blank x b in
      let l = row_length k F.size x r in
      let lt = w.1 in
      let kn = fit.k_n in
      let e = lin.one_column F laws (column g n w.0) w.0 0 k x l (omega arith) (omega arith) (λ i lo hi. fit.identity i w.0 (omega arith) (omega arith)) (row_every k F.size x r) in
      lin.some_nonzero (λ j. letter F g n x j) 0 n w.0 (omega arith) (omega arith) (λ z. w.2 (ap (λ i. slice_index x i) (let q : w.0 ≡ w.0 - 0 = omega arith in q) ∙ sym e ∙ z))

  -- the distance lies between 1 and n
  distance_high : gen_distance F g n k ≤ n
  unfolding gen_distance
  distance_high = fewest_base _ n _

  distance_low : 1 ≤ gen_distance F g n k
  unfolding gen_distance
  distance_low =
      fewest_low (λ x. nonzeros (gen_word F g n x)) n (filter (λ x. not (blank x)) (messages F.size k)) (let a = fit.k_low in let b = fit.k_n in omega arith)
      (λ x h. let z = kept_in (λ x. not (blank x)) x (messages F.size k) h in some_letter x (in_row F.size k x z.1) (not-true (blank x) z.0))

  -- no nonzero message has a word with fewer nonzero letters
  distance_le : (x : List ℕ) → is_row k F.size x ≡ true → blank x ≡ false → gen_distance F g n k ≤ nonzeros (gen_word F g n x)
  unfolding gen_distance
  distance_le x r b = fewest_le (λ x. nonzeros (gen_word F g n x)) n x _ (in_kept (λ x. not (blank x)) x (messages F.size k) (not_from_false (blank x) b) (row_in F.size k x r))

  -- agreeing places, and nonzero letters of the difference's word
  apart : (x y : List ℕ) → is_row k F.size x ≡ true → is_row k F.size y ≡ true → hits (clean (gen_word F g n x)) (gen_word F g n y) + nonzeros (gen_word F g n (lin.minus F y x)) ≤ n
  unfolding gen_word
  apart x y rx ry =
      let lx = row_length k F.size x rx in
      let ly = row_length k F.size y ry in
      let s = span_length 0 n in
      let o = lin.overlap (λ j. letter F g n x j) (λ j. letter F g n y j) (λ j. letter F g n (lin.minus F y x) j)
      (λ j e. lin.agree_zero F laws (column g n j) (column_fits j) y x (ly ∙ sym lx) (row_every k F.size y ry) (row_every k F.size x rx) e) (span 0 n) in
      omega arith

  -- a message that agrees at more than n - d places is the same
  one_message : (x y : List ℕ) → is_row k F.size x ≡ true → is_row k F.size y ≡ true → n - gen_distance F g n k + 1 ≤ hits (clean (gen_word F g n x)) (gen_word F g n y) → y ≡ x
  one_message x y rx ry h =
      let lx = row_length k F.size x rx in
      let ly = row_length k F.size y ry in
      let m = lin.minus_row F laws k y x ly lx in
      let a = apart x y rx ry in
      let d = distance_high in
      ⊎_elim
      (λ b. lin.minus_blank F laws y x (ly ∙ sym lx) (row_every k F.size y ry) (row_every k F.size x rx) b)
      (λ b. absurd (let l = distance_le (lin.minus F y x) (row_from k F.size (lin.minus F y x) m.0 m.1) b in omega arith))
      (cases_Bool (blank (lin.minus F y x)))

  -- the clean rule
  clean_alone : (x : List ℕ) → is_row k F.size x ≡ true → (t : ℕ) → n - gen_distance F g n k + 1 ≤ t → t ≤ n → listing (gen_meaning F g n k) (clean (gen_word F g n x)) t ≡ x ∷ []
  unfolding listing
  clean_alone x r t lo hi =
      kept_one F.size k (λ y. nat_le t (hits (clean (gen_word F g n x)) (gen_word F g n y))) x r
      (le-leb t _ (let s = hits_self (gen_word F g n x) in let l = row_length n F.size _ (word_row x) in omega arith))
      (λ y ry e. one_message x y r ry (let h = leb-true t _ e in omega arith))

  pub generator_lawful : ListingRule (gen_meaning F g n k)
  generator_lawful =
      let b = laws.small in
      let w = laws.two in
      let k1 = fit.k_low in
      let k2 = fit.k_high in
      let kn = fit.k_n in
      let nh = fit.n_high in
      let dl = distance_low in
      let dh = distance_high in
      record {
        sizes = record {
          q_low = omega arith;
          q_high = b;
          n_low = omega arith;
          n_high = omega arith;
          p_low = omega arith;
          p_high = b;
          k_low = k1;
          k_high = omega arith;
          least_low = omega arith;
          least_top = omega arith;
        };
        word_row = λ x e. word_row x;
        reach_inside = λ s t. tt;
        nested_same = λ s t hs lo hi e x ex. refl;
        clean_reach = λ x e t lo hi. refl;
        clean_alone = λ x e t lo hi. clean_alone x e t lo hi;
      }
