-- What the tests of a making show of the table that it makes.
use Rattle.std.proofs.Common.{◌≡◌, ℕ, zero, suc, ◌+◌, ◌-◌, ◌*◌, ◌^◌, ◌<◌, ◌≤◌, true, ltb, leb, List, [], ◌∷◌, length, get_or, replicate, sym, refl, ◌∙◌, subst, ⊎_elim, mul-le-mul, arith}
use Rattle.std.proofs.lemmas.List.{get_or_append_left, get_or-append_right, get_or_past, get_or-replicate, length-replicate}
use Rattle.std.proofs.lemmas.Bool.{cases_lt, and_parts, leb-true, eqb-true, ltb-true}
use Rattle.algebra.specs.Field.{Meaning as Field}
use Rattle.code.specs.Answers.{padded}
use Rattle.code.specs.Messages.{every, is_row}
use Rattle.code.proofs.Alone.{row_length, row_every}
use Rattle.generator.specs.Generator.{gen_shaped, has_identity, max_rows, max_places, max_messages, table_size, Table}
use Rattle.generator.proofs.Checks.{all_at}

-- a padded table has the rows' entries
padded_at : (m : ℕ) (g : List ℕ) (i : ℕ) → get_or (padded m g) i 0 ≡ get_or g i 0
padded_at m g i =
    ⊎_elim
    (λ lt. get_or_append_left g (replicate (m - length g) 0) 0 i lt)
    (λ le. get_or-append_right g (replicate (m - length g) 0) (length g) i 0 refl le ∙ zeros (m - length g) (i - length g) ∙ sym (get_or_past g i 0 le))
    (cases_lt i (length g))
  where
    zeros : (n i : ℕ) → ◌≡◌ {A = ℕ} (get_or (replicate n 0) i 0) 0
    zeros n i = ⊎_elim (λ lt. get_or-replicate n i 0 0 lt) (λ le. get_or_past (replicate n 0) i 0 (let l = length-replicate {A = ℕ} n 0 in omega arith)) (cases_lt i n)

-- the limits that the test of the sizes shows
record Shaped (q n k : ℕ) : Type 0 where
  pub k_low : 1 ≤ k
  pub k_high : k ≤ max_rows
  pub k_n : k ≤ n
  pub n_high : n ≤ max_places
  pub few : q ^ k ≤ max_messages

shaped : (q n k : ℕ) → gen_shaped q n k ≡ true → Shaped q n k
shaped q n k s =
    let a = and_parts (leb 1 k) _ s in
    let b = and_parts (leb k max_rows) _ a.1 in
    let c = and_parts (leb k n) _ b.1 in
    let e = and_parts (leb n max_places) (leb (q ^ k) max_messages) c.1 in
    record {
      k_low = leb-true 1 k a.0;
      k_high = leb-true k max_rows b.0;
      k_n = leb-true k n c.0;
      n_high = leb-true n max_places e.0;
      few = leb-true (q ^ k) max_messages e.1;
    }

-- such rows fit the table
pub rows_fit : (q n k : ℕ) (g : List ℕ) → gen_shaped q n k ≡ true → is_row (k * n) q g ≡ true → length g ≤ table_size
rows_fit q n k g s r =
    let h = shaped q n k s in
    let a : k * n ≤ max_rows * max_places = mul-le-mul h.k_high h.n_high in
    let l = row_length (k * n) q g r in
    omega arith

-- and the table is made
pub table_made : (F : Field) (g : List ℕ) (n k : ℕ) → 0 < F.size → gen_shaped F.size n k ≡ true → is_row (k * n) F.size g ≡ true → has_identity g n k ≡ true → Table F (padded table_size g) n k
table_made F g n k pos s r d =
    let h = shaped F.size n k s in
    record {
      k_low = h.k_low;
      k_high = h.k_high;
      k_n = h.k_n;
      n_high = h.n_high;
      few = h.few;
      letters = λ i. subst (λ z. z < F.size) (sym (padded_at table_size g i)) (below g i (row_every (k * n) F.size g r));
      identity = λ i j hi hj. padded_at table_size g (i * n + j) ∙ eqb-true _ _ (all_at k _ (all_at k _ d i hi) j hj);
    }
  where
    below : (g : List ℕ) (i : ℕ) → every (λ l. ltb l F.size) g ≡ true → get_or g i 0 < F.size
    below [] i h = pos
    below (x ∷ g) zero h = ltb-true x F.size (and_parts (ltb x F.size) (every (λ l. ltb l F.size) g) h).0
    below (x ∷ g) (suc i) h = below g i (and_parts (ltb x F.size) (every (λ l. ltb l F.size) g) h).1
