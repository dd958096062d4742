-- Cells of a curve that are set one after another.
use Rattle.std.proofs.Common.{◌≡◌, ℕ, ◌+◌, ◌-◌, ◌<◌, ◌≤◌, Bool, true, false, cond, leb, ◌≢◌, List, sym, refl, ◌∙◌, subst, ⊎_elim, arith}
use Rattle.std.proofs.lemmas.Bool.{cases_lt}
use Rattle.algebra.specs.Field.{Meaning}
use Rattle.interpolation.specs.Size.{columns}
use Rattle.interpolation.specs.Region.{cell}
use Rattle.interpolation.specs.Steps.{mixed_at, raised_at, RowSet, RowsSet}

-- Row after row, upwards.
pub rows_more : (X : ℕ → ℕ) (lo j : ℕ) (f : ℕ → ℕ → ℕ) (g : ℕ → ℕ) (old mid new : List ℕ) → ((b : ℕ) → X b ≤ columns) → lo ≤ j → ((i : ℕ) → i < X j → g i ≡ f j i)
    → RowsSet X lo j f old mid → RowSet 0 (X j) j g mid new → RowsSet X lo (j + 1) f old new
rows_more X lo j f g old mid new w low is rs r = record {
  done = λ i b h l u. ⊎_elim
      (λ m. r.rest i b (let e = w b in omega arith) (let n : b ≢ j = omega arith in n) ∙ rs.done i b h l m)
      (λ m. again i b h (let q : j ≡ b = omega arith in q))
      (cases_lt b j);
  beside = λ i b h u. ⊎_elim
      (λ m. r.rest i b h (let n : b ≢ j = omega arith in n) ∙ rs.beside i b h u)
      (λ m. ⊎_elim
      (λ n. r.rest i b h (let n : b ≢ j = omega arith in n) ∙ rs.beside i b h u)
      (λ n. aside i b h u (let q : j ≡ b = omega arith in q))
      (cases_lt j b))
      (cases_lt b j);
  before = λ i b h l. r.rest i b h (let n : b ≢ j = omega arith in n) ∙ rs.before i b h l;
  after = λ i b h l. r.rest i b h (let n : b ≢ j = omega arith in n) ∙ rs.after i b h (omega arith);
  size = r.size ∙ rs.size;
}
  where
    again : (i b : ℕ) → i < X b → j ≡ b → cell new i b ≡ f b i
    again i b h e = subst (λ x. cell new i x ≡ f x i) e (let l = subst (λ x. i < X x) (sym e) h in r.done i (omega arith) l ∙ is i l)

    aside : (i b : ℕ) → i < columns → X b ≤ i → j ≡ b → cell new i b ≡ cell old i b
    aside i b h u e = subst (λ x. cell new i x ≡ cell old i x) e (let l = subst (λ x. X x ≤ i) (sym e) u in r.after i l h ∙ rs.beside i j h l)

-- What the cells of the next row are set to, read from the rows so far.
pub mixed_left : (F : Meaning) (X : ℕ → ℕ) (root lo j : ℕ) (f : ℕ → ℕ → ℕ) (old mid : List ℕ) → RowsSet X lo j f old mid → (i : ℕ) → i < columns → mixed_at F root mid j i ≡ mixed_at F root old j i
mixed_left F X root lo j f old mid rs i w =
    λ k. F.sum (F.product root (rs.after i (j + 1) w (omega arith) k)) (rs.after i j w (omega arith) k)

pub raised_left : (X : ℕ → ℕ) (j : ℕ) (f : ℕ → ℕ → ℕ) (old mid : List ℕ) → RowsSet X 0 j f old mid → (i : ℕ) → i < columns → raised_at mid j i ≡ raised_at old j i
raised_left X j f old mid rs i w = by (leb j i)
  where
    by : (b : Bool) → cond b (cell mid (i - j) j) 0 ≡ cond b (cell old (i - j) j) 0
    by true = rs.after (i - j) j (omega arith) (omega arith)
    by false = refl
