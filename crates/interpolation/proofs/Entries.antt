-- Parts of a curve's cells, and what a write to one row leaves.
use Rattle.std.proofs.Common.{◌≡◌, ℕ, ◌+◌, ◌-◌, ◌*◌, ◌<◌, ◌≤◌, ◌≢◌, List, length, take, drop, sym, ap, ◌∙◌, subst, add_comm, arith, length-drop, length-take}
use native.Mathlib.Decide.{ℕ_discrete, dec_lt}
use borrow.Rule.Slice.PartMut.{put_mid}
use Rattle.std.proofs.lemmas.List.{get_or_append_left, get_or-append_right, get_or-take, get_or-drop}
use Rattle.algebra.specs.CodeRecovery.{at}
use Rattle.interpolation.specs.Size.{columns, rows, cells}
use Rattle.interpolation.specs.Region.{width, cell, Changed}

-- The first n cells of row j.
abbrev pub part : (j n : ℕ) → List ℕ → List ℕ
part j n l = take (columns * j + n - columns * j) (drop (columns * j) l)

pub part_cell : (l : List ℕ) (j n i : ℕ) → i < n → at (part j n l) i ≡ cell l i j
part_cell l j n i h = get_or-take (columns * j + n - columns * j) (drop (columns * j) l) i 0 (omega arith) ∙ get_or-drop (columns * j) l i 0 ∙ ap (at l) (add_comm (columns * j) i)

pub part_length : (l : List ℕ) (j n : ℕ) → columns * j + n ≤ length l → length (part j n l) ≡ n
part_length l j n h = simp (length-take, length-drop) (omega arith)

module _ (a k : ℕ) (xs ys : List ℕ) (fits : a + k ≤ length xs) (full : length ys ≡ k) where
  front : length (take a xs) ≡ a
  front = let e = length-take a xs in omega arith

  put_before : (t : ℕ) → t < a → at (put_mid a k xs ys) t ≡ at xs t
  put_before t h = let e = front in get_or_append_left (take a xs) _ 0 t (omega arith) ∙ get_or-take a xs t 0 h

  put_in : (t : ℕ) → t < k → at (put_mid a k xs ys) (t + a) ≡ at ys t
  put_in t h =
      let e : t + a - a ≡ t = omega arith in
      get_or-append_right (take a xs) _ a (t + a) 0 front (omega arith) ∙ get_or_append_left ys _ 0 (t + a - a) (omega arith) ∙ ap (at ys) e

  put_past : (t : ℕ) → a + k ≤ t → at (put_mid a k xs ys) t ≡ at xs t
  put_past t h =
      let e : a + (k + (t - a - k)) ≡ t = omega arith in
      get_or-append_right (take a xs) _ a t 0 front (omega arith) ∙ get_or-append_right ys _ k (t - a) 0 full (omega arith)
      ∙ get_or-drop k (drop a xs) (t - a - k) 0 ∙ get_or-drop a xs (k + (t - a - k)) 0 ∙ ap (at xs) e

module _ (v D : ℕ) (new : ℕ → ℕ → ℕ) (l : List ℕ) where
  -- A row that is still to be changed.
  pub still : (j : ℕ) (l' : List ℕ) → Changed v D j new l l' → j < rows → (i : ℕ) → i < columns → cell l' i j ≡ cell l i j
  still j l' c h i lt = c.outside i j lt h (λ o. absurd (omega arith))

  -- One row more.
  pub changed_more : (j n : ℕ) (l' p : List ℕ) → D < columns → j < rows → n ≡ width v D j → length l' ≡ cells → length p ≡ n →
      ((i : ℕ) → i < n → at p i ≡ new i j) → Changed v D j new l l' → Changed v D (j + 1) new l (put_mid (columns * j) (columns * j + n - columns * j) l' p)
  changed_more j n l' p fits h is size full row c =
      let k : columns * j + n - columns * j ≡ n = omega arith in
      let narrow : n ≤ columns = omega arith in
      subst (λ m. Changed v D (j + 1) new l (put_mid (columns * j) m l' p)) (sym k) (record {
        inside = λ i k o lt. elim (ℕ_discrete k j) [
          | yes e ↦ subst (λ k. cell (put_mid (columns * j) n l' p) i k ≡ new i k) (sym e)
              (let q = subst (λ k. i < width v D k) e lt in let lt' : i < n = omega arith in put_in (columns * j) n l' p (omega arith) full i lt' ∙ row i lt')
          | no ne ↦ apart i k ne (let w = lt in omega arith) ∙ c.inside i k (omega arith) lt
        ];
        outside = λ i k lt r o. elim (ℕ_discrete k j) [
          | yes e ↦ (let q = subst (λ k. width v D k ≤ i) e (o (omega arith)) in let past : n ≤ i = omega arith in
              subst (λ k. cell (put_mid (columns * j) n l' p) i k ≡ cell l i k) (sym e)
              (put_past (columns * j) n l' p (omega arith) full (i + columns * j) (omega arith) ∙ still j l' c h i lt))
          | no ne ↦ apart i k ne lt ∙ c.outside i k lt r (λ q. o (omega arith))
        ];
      })
    where
      apart : (i k : ℕ) → k ≢ j → i < columns → cell (put_mid (columns * j) n l' p) i k ≡ cell l' i k
      apart i k ne lt = elim (dec_lt k j) [
        | yes b ↦ put_before (columns * j) n l' p (omega arith) full (i + columns * k) (omega arith)
        | no b ↦ put_past (columns * j) n l' p (omega arith) full (i + columns * k) (omega arith)
      ]
