-- At most fifteen messages are listed in reach.
use Rattle.std.proofs.Common.{◌≡◌, ℕ, zero, suc, ◌-◌, ◌*◌, ◌<◌, ◌≤◌, Bool, true, false, cond, ◌&&◌, eqb, ltb, leb, List, [], ◌∷◌, length, is_some, Some, None, Ok, Err, Option, sym, refl, ap, ◌∙◌, subst, suc-mul, arith}
use Rattle.fault.specs.declared.Fault.{Fault}
use Rattle.std.proofs.lemmas.List.{length-map}
use Rattle.std.proofs.lemmas.Bool.{and_parts, and_right, or_from, eqb-true, ltb-true, leb-true, le-ltb, true≢false}
use Rattle.algebra.specs.Field.{Meaning as Field, Laws}
use Rattle.algebra.specs.Lists.{Each, Distinct}
use Rattle.algebra.specs.Interpolation.{monomials}
use Rattle.algebra.specs.CodeRecovery.{Coded, score}
use Rattle.algebra.proofs.CodeRecovery.{code_list_bound}
use Rattle.sheet.specs.Letters.{Sheet, weight}
use Rattle.counting.specs.Counting.{limits, conditions, suits, by_counting, in_reach}
use Rattle.counting.proofs.First.{smallest_passes}
use Rattle.code.specs.Messages.{every, is_row, messages}
use Rattle.code.specs.Meaning.{within, beyond, is_sheet, below, listing}
use Rattle.code.specs.Answers.{reached}
use Rattle.code.specs.Rising.{less, rising}
use Rattle.code.proofs.Alone.{row_length, row_every}
use Rattle.code.proofs.Rows.{listing_rows}
use Rattle.code.proofs.Once.{listing_rises}
use Rattle.reed_solomon.specs.ReedSolomon.{rs_at, rs_meaning, Shape, Bounds, Points}
use Rattle.reed_solomon.specs.Gathered.{pairs_of, points_of, letters_of}
use Rattle.reed_solomon.specs.Few.{FewListed, Few}
use Rattle.reed_solomon.specs.Distance.{every_each, passed, spanned}
use Rattle.reed_solomon.proofs.Pairing.{pairs_count, sheet_pairs, score_is}

-- a rising list has no message twice
less_self : (x : List ℕ) → less x x ≡ false
less_self [] = refl
less_self (a ∷ x) = or_from _ _ (le-ltb a a (omega arith)) (and_right _ _ (less_self x))

less_apart : (x : List ℕ) (l : List (List ℕ)) → every (less x) l ≡ true → Each (λ y. ¬ (x ≡ y)) l
less_apart x [] e = tt
less_apart x (y ∷ l) e =
    let p = and_parts (less x y) (every (less x) l) e in
    ((λ q. true≢false (sym p.0 ∙ ap (less x) (sym q) ∙ less_self x)), less_apart x l p.1)

pub rising_apart : (l : List (List ℕ)) → rising l ≡ true → Distinct l
rising_apart [] e = tt
rising_apart (x ∷ l) e = let p = and_parts (every (less x) l) (rising l) e in (less_apart x l p.0, rising_apart l p.1)

-- rows are lists of codes
rows_coded : (F : Field) (k : ℕ) (l : List (List ℕ)) → every (is_row k F.size) l ≡ true → Each (λ f. Coded F f × (length f ≡ k)) l
rows_coded F k [] e = tt
rows_coded F k (x ∷ l) e =
    let p = and_parts (is_row k F.size x) (every (is_row k F.size) l) e in
    ((every_each F.size x (row_every k F.size x p.0), row_length k F.size x p.0), rows_coded F k l p.1)

positive : (r t : ℕ) → 1 ≤ r → 1 ≤ t → 1 ≤ r * t
positive zero t a b = absurd (omega arith)
positive (suc r) t a b = let e = suc-mul r t in omega arith

found : (o : Option ℕ) → is_some o ≡ true → (r : ℕ) × (o ≡ Some r)
found None e = absurd (true≢false (sym e))
found (Some r) e = (r, refl)

module _ (F : Field) (L : Laws F) (n k : ℕ) (fit : Bounds n k) (ps : List ℕ) (points : Points F n ps) (s : Sheet) (t : ℕ) (hs : is_sheet (rs_at limits F n ps k) s ≡ true) where
  pub sheet_parts : (length s ≡ n) × (every (below F.size 256) s ≡ true)
  unfolding is_sheet
  sheet_parts = let p = and_parts (eqb (length s) n) (every (below F.size 256) s) hs in (eqb-true (length s) n p.0, p.1)

  scored : Each (λ f. t ≤ score F (points_of (pairs_of ps s)) (letters_of (pairs_of ps s)) f) (listing (rs_at limits F n ps k) s t)
  unfolding listing
  scored =
      passed (λ x. leb t ((rs_at limits F n ps k).score s x)) (λ f. t ≤ score F (points_of (pairs_of ps s)) (letters_of (pairs_of ps s)) f)
      (λ x e. subst (λ z. t ≤ z) (sym (score_is F L x ps s)) (leb-true t _ e)) (messages F.size k)

  short : (r : ℕ) → 1 ≤ r * t → suits limits (k - 1) t (weight s) r ≡ true → length (listing (rs_at limits F n ps k) s t) ≤ limits.power
  unfolding suits
  short r pos e =
      let p = and_parts (leb (r * t - 1) 63) (ltb (conditions (weight s) r) (monomials 16 (k - 1) (r * t - 1))) e in
      let count : length (points_of (pairs_of ps s)) ≡ weight s = length-map (pairs_of ps s) (λ (p : ℕ × ℕ). p.0) ∙ pairs_count ps s (points.count ∙ sym sheet_parts.0) in
      let more = subst (λ z. conditions z r < monomials 16 (k - 1) (r * t - 1)) (sym count) (ltb-true (conditions (weight s) r) _ p.1) in
      let ek : k ≡ suc (k - 1) = let h = fit.k_low in omega arith in
      let b = code_list_bound F L r t 16 (k - 1) (points_of (pairs_of ps s)) (letters_of (pairs_of ps s)) (listing (rs_at limits F n ps k) s t)
      (sheet_pairs F ps s points.below points.apart sheet_parts.1) pos more
      (subst (λ z. Each (λ f. Coded F f × (length f ≡ z)) (listing (rs_at limits F n ps k) s t)) ek (rows_coded F k _ (listing_rows (rs_at limits F n ps k) s t)))
      (rising_apart _ (listing_rises (rs_at limits F n ps k) s t)) scored in
      omega (arith, b)

pub few_listed : FewListed
few_listed F L n k fit ps points s t hs lo hi e =
    let r = found (by_counting limits (k - 1) t (weight s)) e in
    let d = smallest_passes (suits limits (k - 1) t (weight s)) 1 4 r.0 r.1 in
    short F L n k fit ps points s t hs r.0 (positive r.0 t d.1 lo) d.0

-- so what is answered is few
few_if_fits : (b : Bool) (count : ℕ) (f : Fault) → count ≤ limits.power → Few (cond b (Ok count) (Err f))
few_if_fits true count f h = h
few_if_fits false count f h = tt

few_if_near : (k len : ℕ) (l : List (List ℕ)) (b : Bool) → (b ≡ true → length l ≤ limits.power) → Few (reached k len l (cond b within (beyond 0 0)))
few_if_near k len l true h = few_if_fits (leb (k * length l) len) (length l) _ (h refl)
few_if_near k len l false h = tt

pub reached_few :
    (F : Field) → Laws F → (n k : ℕ) → Shape F n k → (s : Sheet) (t len : ℕ) → is_sheet (rs_meaning limits F n k) s ≡ true → (leb 1 t && leb t n) ≡ true
    → Few (reached k len (listing (rs_meaning limits F n k) s t) ((rs_meaning limits F n k).reach s t))
reached_few F L n k shape s t len hs ht =
    let p = and_parts (leb 1 t) (leb t n) ht in
    few_if_near k len _ (in_reach limits (k - 1) t (weight s))
    (few_listed F L n k shape.bounds _ (spanned F n shape.n_q) s t hs (leb-true 1 t p.0) (leb-true t n p.1))
