-- What a fitting recovers from the pairs of a sheet is the list of the code.
use Rattle.std.proofs.Common.{◌≡◌, ℕ, ◌-◌, ◌^◌, ◌<◌, ◌≤◌, min, true, cond, leb, List, [], length, is_some, Some, None, Ok, Err, filter, Option, sym, refl, ap, ◌∙◌, ap₂, arith}
use mathlib.Core.Path.{fun_ext}
use Rattle.std.proofs.lemmas.Bool.{cond-true, and_from, le-leb}
use Rattle.fault.specs.declared.Fault.{Fault}
use Rattle.algebra.specs.Field.{Meaning as Field, Laws}
use Rattle.sheet.specs.Letters.{Sheet, weight}
use Rattle.sheet.proofs.Tally.{weight_le}
use Rattle.counting.specs.Counting.{limits, by_counting}
use Rattle.code.specs.Messages.{span, messages, every}
use Rattle.code.specs.Meaning.{is_sheet, below, listing, within, beyond}
use Rattle.code.specs.Answers.{reached}
use Rattle.interpolation.specs.Recovered.{recovered}
use Rattle.interpolation.specs.Fitting.{shaped, opened, reached_by}
use Rattle.reed_solomon.specs.ReedSolomon.{rs_meaning, Shape}
use Rattle.reed_solomon.specs.Gathered.{pairs_of, points_of, letters_of, fed}
use Rattle.reed_solomon.specs.Distance.{spanned, span_below}
use Rattle.reed_solomon.proofs.Pairing.{pairs_count, of_points, sheet_pairs, score_is}
use Rattle.reed_solomon.proofs.Few.{sheet_parts}
use Rattle.reed_solomon.proofs.Feeding.{fed_all}

module _ (F : Field) (L : Laws F) (n k : ℕ) (shape : Shape F n k) (s : Sheet) (t : ℕ) (hs : is_sheet (rs_meaning limits F n k) s ≡ true) where
  abbrev P : List (ℕ × ℕ)
  P = pairs_of (span 0 n) s

  parts : (length s ≡ n) × (every (below F.size 256) s ≡ true)
  parts = sheet_parts F L n k shape.bounds (span 0 n) (spanned F n shape.n_q) s t hs

  pub places : length s ≡ n
  places = parts.0

  pub short : length s ≤ 256
  short = let e = places in let h = shape.bounds.n_high in omega arith

  -- the load is counted without a cap
  pub load_is : (load : ℕ) → load ≡ min (weight s) (2 ^ 64 - 1) → load ≡ weight s
  load_is load e = let w = weight_le s in let p = places in let h = shape.bounds.n_high in omega arith

  -- all pairs of the sheet are taken
  pub all_taken : (limit : ℕ) → limit ≡ weight s → fed F limit ([], []) P ≡ (points_of P, letters_of P)
  all_taken limit e =
      let points = spanned F n shape.n_q in
      fed_all F limit (λ x. x < n) (λ x h. let b = shape.bounds.n_high in omega arith) [] P
      (sheet_pairs F (span 0 n) s points.below points.apart parts.1)
      (of_points (λ x. x < n) (span 0 n) s (span_below n 0 n (omega arith)))
      (let c = pairs_count (span 0 n) s (points.count ∙ sym places) in omega arith)

  same_list : recovered F k t (points_of P) (letters_of P) ≡ listing (rs_meaning limits F n k) s t
  unfolding recovered listing
  same_list = ap (λ f. filter f (messages F.size k)) (fun_ext (λ g. ap (leb t) (score_is F L g (span 0 n) s)))

  pub recovered_is : (xs ys : List ℕ) → ◌≡◌ {A = List ℕ × List ℕ} (xs, ys) (points_of P, letters_of P) → recovered F k t xs ys ≡ listing (rs_meaning limits F n k) s t
  recovered_is xs ys e = ap (λ (p : List ℕ × List ℕ). recovered F k t p.0 p.1) e ∙ same_list

  module _ (lo : 1 ≤ t) (hi : t ≤ n) where
    in_limits : shaped k t ≡ true
    in_limits =
        let b = shape.bounds in
        let h = b.n_high in
        and_from _ _ (le-leb 1 k b.k_low) (and_from _ _ (le-leb k 16 b.k_high) (and_from _ _ (le-leb 1 t lo) (le-leb t 64 (omega arith))))

    opened_is : (limit : ℕ) → limit ≡ weight s → opened k t limit ≡ reached_by (by_counting limits (k - 1) t (weight s))
    opened_is limit e = cond-true (shaped k t) _ _ in_limits ∙ ap (λ z. reached_by (by_counting limits (k - 1) t z)) e

    -- a fitting opens just where the sheet is in reach
    pub opens_in_reach : (limit r : ℕ) → limit ≡ weight s → opened k t limit ≡ Ok r → (rs_meaning limits F n k).reach s t ≡ within
    opens_in_reach limit r e h = by (by_counting limits (k - 1) t (weight s)) (sym (opened_is limit e) ∙ h)
      where
        by : (o : Option ℕ) → reached_by o ≡ Ok r → cond (is_some o) within (beyond 0 0) ≡ within
        by (Some r) q = refl
        by None q = absurd (let z : ◌≡◌ {A = ℕ} 0 1 = cc in omega arith)

    pub refused_out_of_reach : (limit len : ℕ) (f : Fault) → limit ≡ weight s → opened k t limit ≡ Err f
        → Err f ≡ reached k len (listing (rs_meaning limits F n k) s t) ((rs_meaning limits F n k).reach s t)
    refused_out_of_reach limit len f e h = by (by_counting limits (k - 1) t (weight s)) (sym (opened_is limit e) ∙ h)
      where
        by : (o : Option ℕ) → reached_by o ≡ Err f → Err f ≡ reached k len (listing (rs_meaning limits F n k) s t) (cond (is_some o) within (beyond 0 0))
        by None q = sym q
        by (Some r) q = absurd (let z : ◌≡◌ {A = ℕ} 0 1 = cc in omega arith)

  -- what is held after the whole sheet was offered to an empty fitting
  pub held_all : (limit len : ℕ) (start held : List ℕ × List ℕ) → limit ≡ weight s → len ≡ n → start ≡ ([], []) → held ≡ fed F limit start (pairs_of (span 0 len) s) → held ≡ (points_of P, letters_of P)
  held_all limit len start held el en es h = h ∙ ap₂ (λ u m. fed F limit u (pairs_of (span 0 m) s)) es en ∙ all_taken limit el

  -- the same list, said of equal arguments
  pub list_same : (G : Field) (k' t' : ℕ) (xs ys : List ℕ) → G ≡ F → k' ≡ k → t' ≡ t → ◌≡◌ {A = List ℕ × List ℕ} (xs, ys) (points_of P, letters_of P)
      → recovered G k' t' xs ys ≡ listing (rs_meaning limits F n k) s t
  list_same G k' t' xs ys eG ek et e = ap (λ z. recovered z k' t' xs ys) eG ∙ ap₂ (λ a b. recovered F a b xs ys) ek et ∙ recovered_is xs ys e
