-- What a fitting holds after it was offered the pairs of a sheet, place after place.
use Rattle.std.proofs.Common.{◌≡◌, ℕ, zero, suc, ◌+◌, ◌<◌, ◌≤◌, Bool, true, false, cond, ◌&&◌, eqb, ltb, List, [], ◌∷◌, ◌++◌, map, length, get_or, take, Ok, Result, sym, refl, ap, ◌∙◌, subst, ap₂, ⊎_elim, arith}
use Rattle.std.proofs.lemmas.List.{append-nil, append_assoc, length-append, length-map, length-take, map-append, take_more}
use Rattle.std.proofs.lemmas.Bool.{cond-true, cond-false, and_from, and_parts, lt-ltb, eqb-true, cases_Bool, or_cases, true≢false}
use Rattle.fault.specs.declared.Fault.{Fault}
use Rattle.algebra.specs.Field.{Meaning as Field}
use Rattle.algebra.specs.Lists.{Each}
use Rattle.algebra.specs.CodeRecovery.{Pairs}
use Rattle.sheet.specs.Letters.{Letters, Sheet}
use Rattle.sheet.specs.Standing.{stands}
use Rattle.sheet.specs.declared.marks.Marks.{Marks}
use Rattle.code.specs.Messages.{span}
use Rattle.interpolation.specs.Fitting.{taken, kept, among}
use Rattle.reed_solomon.specs.Gathered.{letters, at_point, pairs_of, points_of, letters_of, offered, fed}

pub fed_append : (F : Field) (limit : ℕ) (held : List ℕ × List ℕ) (ps rs : List (ℕ × ℕ)) → fed F limit held (ps ++ rs) ≡ fed F limit (fed F limit held ps) rs
fed_append F limit held [] rs = refl
fed_append F limit held (p ∷ ps) rs = fed_append F limit (offered F limit held p) ps rs

-- one letter more
pub fed_letter : (F : Field) (limit x : ℕ) (S : Letters) (l : ℕ) (b : Bool) (start now next : List ℕ × List ℕ) → now ≡ fed F limit start (at_point x (letters S l))
    → b ≡ S l → next ≡ fed F limit now (at_point x (cond b (l ∷ []) [])) → next ≡ fed F limit start (at_point x (letters S (l + 1)))
unfolding letters
fed_letter F limit x S l b start now next e eb h =
    h ∙ ap₂ (λ u v. fed F limit u (at_point x (cond v (l ∷ []) []))) e eb
    ∙ sym (fed_append F limit start (at_point x (letters S l)) (at_point x (cond (S l) (l ∷ []) [])))
    ∙ ap (fed F limit start) (sym (map-append (λ l. (x, l)) (letters S l) (cond (S l) (l ∷ []) [])))
    ∙ ap (λ z. fed F limit start (at_point x (letters S z))) (let z : suc l ≡ l + 1 = omega arith in z)

-- one place more
pairs_more : (a i : ℕ) (s : Sheet) (S : Letters) → length s ≡ i → pairs_of (span a (suc i)) (s ++ S ∷ []) ≡ pairs_of (span a i) s ++ at_point (a + i) (letters S 256)
unfolding pairs_of span
pairs_more a zero [] S e = append-nil _ ∙ ap (λ z. at_point z (letters S 256)) (let z : a ≡ a + 0 = omega arith in z)
pairs_more a zero (T ∷ s) S e = absurd (omega arith)
pairs_more a (suc i) [] S e = absurd (omega arith)
pairs_more a (suc i) (T ∷ s) S e =
    ap (λ z. at_point a (letters T 256) ++ z) (pairs_more (suc a) i s S (omega arith))
    ∙ sym (append_assoc (at_point a (letters T 256)) (pairs_of (span (suc a) i) s) _)
    ∙ ap (λ z. (at_point a (letters T 256) ++ pairs_of (span (suc a) i) s) ++ at_point z (letters S 256)) (let z : suc a + i ≡ a + suc i = omega arith in z)

pub fed_place : (F : Field) (limit : ℕ) (ms : List Marks) (i : ℕ) (d : Marks) (start now next : List ℕ × List ℕ) → i < length ms
    → now ≡ fed F limit start (pairs_of (span 0 i) (map stands (take i ms))) → next ≡ fed F limit now (at_point i (letters (stands (get_or ms i d)) 256))
    → next ≡ fed F limit start (pairs_of (span 0 (i + 1)) (map stands (take (i + 1) ms)))
fed_place F limit ms i d start now next h e g =
    let n : length (map stands (take i ms)) ≡ i = simp (length-map, length-take) (omega arith) in
    g ∙ ap (λ u. fed F limit u (at_point i (letters (stands (get_or ms i d)) 256))) e
    ∙ sym (fed_append F limit start (pairs_of (span 0 i) (map stands (take i ms))) (at_point i (letters (stands (get_or ms i d)) 256)))
    ∙ ap (fed F limit start)
    (sym (ap (λ z. pairs_of (span 0 z) (map stands (take (i + 1) ms))) (let z : i + 1 ≡ suc i = omega arith in z)
    ∙ ap (λ z. pairs_of (span 0 (suc i)) (map stands z)) (take_more ms i d h)
    ∙ ap (pairs_of (span 0 (suc i))) (map-append stands (take i ms) (get_or ms i d ∷ []))
    ∙ pairs_more 0 i (map stands (take i ms)) (stands (get_or ms i d)) n
    ∙ ap (λ z. pairs_of (span 0 i) (map stands (take i ms)) ++ at_point z (letters (stands (get_or ms i d)) 256)) (let z : 0 + i ≡ i = omega arith in z)))

-- a pair that is among others stands somewhere
among_found : (xs ys : List ℕ) (x y : ℕ) → among xs ys x y ≡ true → (i : ℕ) × (i < length xs) × (get_or xs i 0 ≡ x) × (get_or ys i 0 ≡ y)
among_found [] ys x y e = absurd (true≢false (sym e))
among_found (a ∷ xs) [] x y e = absurd (true≢false (sym e))
among_found (a ∷ xs) (b ∷ ys) x y e =
    ⊎_elim
    (λ h. let p = and_parts (eqb a x) (eqb b y) h in (0, omega arith, eqb-true a x p.0, eqb-true b y p.1))
    (λ h. let r = among_found xs ys x y h in (suc r.0, (let z = r.1 in omega arith), r.2, r.3))
    (or_cases (eqb a x && eqb b y) (among xs ys x y) e)

module _ (F : Field) (limit : ℕ) (small : ℕ → Type 0) (fits : (x : ℕ) → small x → x < 64) where
  -- different pairs, no more than the limit, are all taken
  pub fed_all : (qs ps : List (ℕ × ℕ)) → Pairs F (points_of (qs ++ ps)) (letters_of (qs ++ ps)) → Each (λ p. small p.0) ps → length (qs ++ ps) ≤ limit
      → fed F limit (points_of qs, letters_of qs) ps ≡ (points_of (qs ++ ps), letters_of (qs ++ ps))
  fed_all qs [] P h l = ap (λ z. (points_of z, letters_of z)) (sym (append-nil qs))
  fed_all qs (p ∷ ps) P h l =
      ap (λ z. fed F limit z ps) (step (taken F limit (points_of qs) (letters_of qs) p.0 p.1) accepted)
      ∙ fed_all (qs ++ p ∷ []) ps (subst (λ z. Pairs F (points_of z) (letters_of z)) (sym assoc) P) h.1 (subst (λ z. length z ≤ limit) (sym assoc) l)
      ∙ ap (λ z. (points_of z, letters_of z)) assoc
    where
      assoc : (qs ++ p ∷ []) ++ ps ≡ qs ++ p ∷ ps
      assoc = append_assoc qs (p ∷ []) ps

      long : length (qs ++ p ∷ ps) ≡ length qs + suc (length ps)
      long = length-append qs (p ∷ ps)

      inside : length qs < length (points_of (qs ++ p ∷ ps))
      inside = let a = length-map (qs ++ p ∷ ps) (λ (p : ℕ × ℕ). p.0) in let b = long in omega arith

      here : (f : ℕ × ℕ → ℕ) → get_or (map f (qs ++ p ∷ ps)) (length qs) 0 ≡ f p
      here f = go qs
        where
          go : (qs : List (ℕ × ℕ)) → get_or (map f (qs ++ p ∷ ps)) (length qs) 0 ≡ f p
          go [] = refl
          go (q ∷ qs) = go qs

      there : (f : ℕ × ℕ → ℕ) (i : ℕ) → i < length qs → get_or (map f (qs ++ p ∷ ps)) i 0 ≡ get_or (map f qs) i 0
      there f i = go qs i
        where
          go : (qs : List (ℕ × ℕ)) (i : ℕ) → i < length qs → get_or (map f (qs ++ p ∷ ps)) i 0 ≡ get_or (map f qs) i 0
          go [] i h = absurd (omega arith)
          go (q ∷ qs) zero h = refl
          go (q ∷ qs) (suc i) h = go qs i (omega arith)

      new : among (points_of qs) (letters_of qs) p.0 p.1 ≡ false
      new =
          ⊎_elim
          (λ t.
          let r = among_found (points_of qs) (letters_of qs) p.0 p.1 t in
          let m = length-map qs (λ (p : ℕ × ℕ). p.0) in
          let i : r.0 < length qs = omega (arith, r.1, m) in
          absurd (P.apart r.0 (length qs) i inside
          (there (λ (p : ℕ × ℕ). p.0) r.0 i ∙ r.2 ∙ sym (here (λ (p : ℕ × ℕ). p.0)))
          (there (λ (p : ℕ × ℕ). p.1) r.0 i ∙ r.3 ∙ sym (here (λ (p : ℕ × ℕ). p.1)))))
          (λ f. f) (cases_Bool (among (points_of qs) (letters_of qs) p.0 p.1))

      accepted : taken F limit (points_of qs) (letters_of qs) p.0 p.1 ≡ Ok (length (points_of qs) + 1)
      accepted =
          let x : p.0 < F.size = subst (λ z. z < F.size) (here (λ (p : ℕ × ℕ). p.0)) (P.low_x (length qs) inside) in
          let y : p.1 < F.size = subst (λ z. z < F.size) (here (λ (p : ℕ × ℕ). p.1)) (P.low_y (length qs) inside) in
          cond-true (ltb p.0 F.size && ltb p.0 64) _ _ (and_from _ _ (lt-ltb p.0 F.size x) (lt-ltb p.0 64 (fits p.0 h.0)))
          ∙ cond-true (ltb p.1 F.size) _ _ (lt-ltb p.1 F.size y)
          ∙ cond-false (among (points_of qs) (letters_of qs) p.0 p.1) _ _ new
          ∙ cond-true (ltb (length (points_of qs)) limit) _ _ (lt-ltb (length (points_of qs)) limit (let m = length-map qs (λ (p : ℕ × ℕ). p.0) in let b = long in omega arith))

      step : (r : Result ℕ Fault) → r ≡ Ok (length (points_of qs) + 1) → ◌≡◌ {A = List ℕ × List ℕ} (kept r (points_of qs) p.0, kept r (letters_of qs) p.1) (points_of (qs ++ p ∷ []), letters_of (qs ++ p ∷ []))
      step r e =
          ap (λ z. (kept z (points_of qs) p.0, kept z (letters_of qs) p.1)) e
          ∙ ap₂ (λ u v. (u, v)) (sym (map-append (λ (p : ℕ × ℕ). p.0) qs (p ∷ []))) (sym (map-append (λ (p : ℕ × ℕ). p.1) qs (p ∷ [])))
