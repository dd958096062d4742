-- Putting y + g for y row by row, and then x y for y, puts x y + g for y.
use Rattle.std.proofs.Common.{◌≡◌, ℕ, zero, suc, ◌+◌, ◌-◌, ◌*◌, ◌<◌, ◌≤◌, cond, List, length, sym, refl, ap, ◌∙◌, subst, ap₂, ⊎_elim, add-mul, mul-le-mul_left, arith}
use Rattle.std.proofs.lemmas.Bool.{cases_lt, le-leb, lt-leb}
use Rattle.algebra.specs.Field.{Meaning, Laws, read, codes}
use Rattle.algebra.specs.Curve.{Table, DegreeBelow}
use Rattle.algebra.specs.Interpolation.{Same}
use Rattle.algebra.specs.Walk.{moved}
use Rattle.algebra.specs.CodeRecovery.{table}
use Rattle.algebra.proofs.Carried.{some}
use Rattle.algebra.proofs.FirstFound.{read_lt}
use Rattle.interpolation.specs.Size.{columns}
use Rattle.interpolation.specs.declared.region.Region.{Region}
use Rattle.interpolation.specs.Region.{cell}
use Rattle.interpolation.specs.Steps.{wide_at, above_at, lighter, Light, mixed_at, raised_at, RowsSet, translated, Translated, Moved}
use Rattle.interpolation.proofs.Codes.{read_zero, mixed_read, mixed_zero, mixed_none}

-- The weighted degree grows with the power of y.
further : (w i a b X : ℕ) → a ≤ b → X ≤ i + w * a → X ≤ i + w * b
further w i a b X h o = let m = mul-le-mul_left w h in omega arith

module _ (F : Meaning) (L : Laws F) (g : ℕ) (c : Table ℕ) where
  translated_past : (n k i j : ℕ) → n ≤ j → translated F g c n k i j ≡ 0
  translated_past zero k i j h = refl
  translated_past (suc n) k i zero h = absurd (omega arith)
  translated_past (suc n) k i (suc j) h = mixed_none F L g _ _ (translated_past n (suc k) i (suc j) (omega arith)) (translated_past n (suc k) i j (omega arith))

  translated_below : (n k i j : ℕ) → translated F g c n k i j < F.size
  translated_below zero k i j = some F L
  translated_below (suc n) k i zero = L.sum_below _ _
  translated_below (suc n) k i (suc j) = L.sum_below _ _

  -- the weighted degree stays
  translated_light : (X Y w : ℕ) → DegreeBelow (codes F) X Y w X c → (n k i j : ℕ) → k + n ≤ Y → i < X → X ≤ i + w * (k + j) → translated F g c n k i j ≡ 0
  translated_light X Y w light zero k i j r h o = refl
  translated_light X Y w light (suc n) k i zero r h o =
      mixed_none F L g _ _
      (translated_light X Y w light n (suc k) i 0 (omega arith) h (further w i (k + 0) (suc k + 0) X (omega arith) o))
      (light i k h (omega arith) (further w i (k + 0) k X (omega arith) o))
  translated_light X Y w light (suc n) k i (suc j) r h o =
      mixed_none F L g _ _
      (translated_light X Y w light n (suc k) i (suc j) (omega arith) h (further w i (k + suc j) (suc k + suc j) X (omega arith) o))
      (translated_light X Y w light n (suc k) i j (omega arith) h (further w i (k + suc j) (suc k + j) X (omega arith) o))

  -- with x y for y after it
  moved_on : (n k i e j : ℕ) → i ≡ j + e → moved (codes F) g c n k i j ≡ translated F g c n k e j
  moved_on zero k i e j h = refl
  moved_on (suc n) k i e zero h =
      let q : i ≡ e = omega arith in
      ap₂ (λ x y. F.sum (F.product g x) y) (moved_on n (suc k) i e 0 h) (ap (λ i. c i k) q)
  moved_on (suc n) k zero e (suc j) h = absurd (omega arith)
  moved_on (suc n) k (suc i) e (suc j) h =
      ap₂ (λ x y. F.sum (F.product g x) y) (moved_on n (suc k) (suc i) e (suc j) h) (moved_on n (suc k) i e j (omega arith))

  moved_off : (n k i j : ℕ) → i < j → moved (codes F) g c n k i j ≡ 0
  moved_off zero k i j h = refl
  moved_off (suc n) k i zero h = absurd (omega arith)
  moved_off (suc n) k zero (suc j) h = mixed_none F L g _ _ (moved_off n (suc k) 0 (suc j) h) refl
  moved_off (suc n) k (suc i) (suc j) h = mixed_none F L g _ _ (moved_off n (suc k) (suc i) (suc j) h) (moved_off n (suc k) i j (omega arith))

-- The n rows from k on are put together, and those before are as they were.
pub record Part (F : Meaning) (X g : ℕ) (old : List ℕ) (n k : ℕ) (mid : List ℕ) : Type 0 where
  pub low : (i j : ℕ) → i < columns → j < k → cell mid i j ≡ cell old i j
  pub high : (i j : ℕ) → i < X → j < n → read F.size (cell mid i (k + j)) ≡ translated F g (table F columns old) n k i j
  pub size : length mid ≡ length old

module _ (F : Meaning) (L : Laws F) (r : Region) (g : ℕ) (old mid new : List ℕ) (n k : ℕ) (wide : r.width ≤ columns) (all : suc k + n ≡ r.height)
    (light : DegreeBelow (codes F) r.width r.height r.weight r.width (table F columns old))
    (p : Part F r.width g old n (suc k) mid) (rs : RowsSet (above_at r) k (r.height - 1) (mixed_at F g mid) mid new) where
  abbrev c : Table ℕ
  c = table F columns old

  row_of : (l : List ℕ) (i a b : ℕ) → a ≡ b → read F.size (cell l i a) ≡ read F.size (cell l i b)
  row_of l i a b e = ap (λ j. read F.size (cell l i j)) e

  inner : (i j x : ℕ) → i < above_at r (k + j) → i < r.width → j < n → read F.size (cell mid i (k + j)) ≡ x
      → read F.size (cell new i (k + j)) ≡ F.sum (F.product g (translated F g c n (suc k) i j)) x
  inner i j x b hi hj e =
      ap (read F.size) (rs.done i (k + j) b (omega arith) (omega arith))
      ∙ mixed_read F L g _ _
      ∙ ap₂ (λ a b. F.sum (F.product g a) b) (row_of mid i (k + j + 1) (suc k + j) (let q : k + j + 1 ≡ suc k + j = omega arith in q) ∙ p.high i j hi hj) e

  -- what stays, since nothing is above it
  outer : (i j x : ℕ) → cell new i (k + j) ≡ cell mid i (k + j) → translated F g c n (suc k) i j ≡ 0 → read F.size (cell mid i (k + j)) ≡ x → x < F.size
      → read F.size (cell new i (k + j)) ≡ F.sum (F.product g (translated F g c n (suc k) i j)) x
  outer i j x s z e b = ap (read F.size) s ∙ e ∙ sym (mixed_zero F L g _ x z b)

  past_row : (i j : ℕ) → above_at r (k + j) ≤ i → r.width ≤ i + r.weight * (suc k + j)
  past_row i j h =
      let q : k + j + 1 ≡ suc k + j = omega arith in
      subst (λ a. r.width ≤ i + r.weight * a) q (let z : r.width - r.weight * (k + j + 1) ≤ i = h in omega arith)

  either : (i j x : ℕ) → i < r.width → read F.size (cell mid i (k + j)) ≡ x → x < F.size → read F.size (cell new i (k + j)) ≡ F.sum (F.product g (translated F g c n (suc k) i j)) x
  either i j x hi e b = ⊎_elim
      (λ h. ⊎_elim
      (λ l. inner i j x l hi h e)
      (λ l. outer i j x (rs.beside i (k + j) (omega arith) l) (translated_light F L g c r.width r.height r.weight light n (suc k) i j (omega arith) hi (past_row i j l)) e b)
      (cases_lt i (above_at r (k + j))))
      (λ h. outer i j x (rs.after i (k + j) (omega arith) (omega arith)) (translated_past F L g c n (suc k) i j h) e b)
      (cases_lt j n)

  high_new : (i j : ℕ) → i < r.width → j < suc n → read F.size (cell new i (k + j)) ≡ translated F g c (suc n) k i j
  high_new i zero hi hj =
      either i 0 (c i k) hi (row_of mid i (k + 0) k (let q : k + 0 ≡ k = omega arith in q) ∙ ap (read F.size) (p.low i k (omega arith) (omega arith))) (read_lt F.size _ (some F L))
  high_new i (suc j) hi hj =
      either i (suc j) (translated F g c n (suc k) i j) hi
      (row_of mid i (k + suc j) (suc k + j) (let q : k + suc j ≡ suc k + j = omega arith in q) ∙ p.high i j hi (omega arith))
      (translated_below F L g c n (suc k) i j)

  pub part_more : Part F r.width g old (suc n) k new
  part_more = record {
    low = λ i j hi hj. rs.before i j hi hj ∙ p.low i j hi (omega arith);
    high = high_new;
    size = rs.size ∙ p.size;
  }

pub part_next : (F : Meaning) (L : Laws F) (r : Region) (g : ℕ) (old mid new : List ℕ) (n k : ℕ) → r.width ≤ columns → suc k + n ≡ r.height → Light F r old
    → Part F r.width g old n (suc k) mid → RowsSet (above_at r) k (r.height - 1) (mixed_at F g mid) mid new → Part F r.width g old (suc n) k new
unfolding Light
part_next F L r g old mid new n k wide all light p rs = part_more F L r g old mid new n k wide all light p rs

pub part_all : (F : Meaning) (r : Region) (g : ℕ) (old new : List ℕ) → Part F r.width g old r.height 0 new → Translated F r g old new
part_all F r g old new p = record {
  same = λ i j hi hj. ap (λ b. read F.size (cell new i b)) (let q : j ≡ 0 + j = omega arith in q) ∙ p.high i j hi hj;
  size = p.size;
}

module _ (F : Meaning) (L : Laws F) (r : Region) (g : ℕ) (old mid new : List ℕ) (wide : r.width ≤ columns) (heavy : 1 ≤ r.weight)
    (light : DegreeBelow (codes F) r.width r.height r.weight r.width (table F columns old))
    (t : Translated F r g old mid) (rs : RowsSet (wide_at (lighter r)) 0 r.height (raised_at mid) mid new) where
  abbrev cs : Table ℕ
  cs = table F columns old

  inside : (i j : ℕ) → i < r.width → j < r.height → j ≤ i → read F.size (raised_at mid j i) ≡ moved (codes F) g cs r.height 0 i j
  inside i j hi hj h =
      ap (λ b. read F.size (cond b (cell mid (i - j) j) 0)) (le-leb j i h) ∙ t.same (i - j) j (omega arith) hj
      ∙ sym (moved_on F L g cs r.height 0 i (i - j) j (omega arith))

  outside : (i j : ℕ) → i < j → read F.size (raised_at mid j i) ≡ moved (codes F) g cs r.height 0 i j
  outside i j h =
      ap (λ b. read F.size (cond b (cell mid (i - j) j) 0)) (lt-leb j i h) ∙ read_zero F.size 0 refl
      ∙ sym (moved_off F L g cs r.height 0 i j h)

  none : (i j : ℕ) → i < r.width → r.width ≤ i + r.weight * (0 + j) → translated F g cs r.height 0 i j ≡ 0
  none i j h o = translated_light F L g cs r.width r.height r.weight light r.height 0 i j (omega arith) h o

  -- past the row nothing comes
  nothing : (i j : ℕ) → i < r.width → j < r.height → r.width ≤ i + (r.weight - 1) * j → read F.size (cell mid i j) ≡ moved (codes F) g cs r.height 0 i j
  nothing i j hi hj o =
      let split : r.weight * (0 + j) ≡ (r.weight - 1) * j + j = weighs r.weight j heavy in
      t.same i j hi hj ∙ none i j hi (omega arith)
      ∙ ⊎_elim (λ h. sym (moved_off F L g cs r.height 0 i j h)) (λ h. sym (moved_on F L g cs r.height 0 i (i - j) j (omega arith) ∙ none (i - j) j (omega arith) (omega arith))) (cases_lt i j)
    where
      weighs : (w j : ℕ) → 1 ≤ w → w * (0 + j) ≡ (w - 1) * j + j
      weighs zero j h = absurd (omega arith)
      weighs (suc w) j h =
          ap (λ a. suc w * a) (let q : 0 + j ≡ j = omega arith in q) ∙ ap (λ a. a * j) (let q : suc w ≡ w + 1 = omega arith in q) ∙ add-mul w 1 j
          ∙ ap (λ a. w * j + a) (let q : 1 * j ≡ j = omega arith in q) ∙ ap (λ a. a * j + j) (let q : w ≡ suc w - 1 = omega arith in q)

  moved_same : Same r.width r.height (table F columns new) (moved (codes F) g (table F columns old) r.height 0)
  moved_same i j hi hj = ⊎_elim
      (λ b. ap (read F.size) (rs.done i j b (omega arith) hj) ∙ ⊎_elim (λ h. outside i j h) (λ h. inside i j hi hj h) (cases_lt i j))
      (λ b. ap (read F.size) (rs.beside i j (omega arith) b) ∙ nothing i j hi hj (let z : r.width - (r.weight - 1) * j ≤ i = b in omega arith))
      (cases_lt i (wide_at (lighter r) j))

pub moved_all : (F : Meaning) (L : Laws F) (r : Region) (g : ℕ) (old mid new : List ℕ) → r.width ≤ columns → 1 ≤ r.weight → Light F r old → Translated F r g old mid
    → RowsSet (wide_at (lighter r)) 0 r.height (raised_at mid) mid new → Moved F r g old new
unfolding Light
moved_all F L r g old mid new wide heavy light t rs = record { same = moved_same F L r g old mid new wide heavy light t rs; size = rs.size ∙ t.size }
