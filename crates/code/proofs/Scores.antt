-- Scores on the sheet of one word.
use Rattle.std.proofs.Common.{◌≡◌, ℕ, zero, suc, ◌+◌, ◌<◌, ◌≤◌, true, false, cond, eqb, ltb, min, List, [], ◌∷◌, map, length, drop, filter, refl, ap, ◌∙◌, ap₂, ⊎_elim, arith}
use Rattle.std.proofs.lemmas.List.Sums.{sum_by-cons}
use Rattle.std.proofs.lemmas.Bool.{and_parts, eq-eqb, ne_eqb, ltb-true, cases_eq}
use Rattle.sheet.specs.Letters.{tally, size, weight}
use Rattle.sheet.specs.Standing.{stands}
use Rattle.sheet.specs.declared.marks.Marks.{Marks}
use Rattle.code.specs.Messages.{every}
use Rattle.code.specs.Meaning.{only, clean}
use Rattle.code.specs.Score.{hits}

one_is_one : (l n : ℕ) → (n ≤ l → tally (only l) n ≡ 0) × (l < n → tally (only l) n ≡ 1)
unfolding tally
one_is_one l zero = ((λ _. refl), (λ h. absurd (omega arith)))
one_is_one l (suc n) =
    let rest = one_is_one l n in (
      (λ h. ap (λ b. cond b 1 0 + tally (only l) n) (ne_eqb n l (λ e. omega arith)) ∙ (let z = rest.0 (omega arith) in omega arith)),
      (λ h. ⊎_elim
          (λ e. ap (λ b. cond b 1 0 + tally (only l) n) (eq-eqb n l e) ∙ (let z = rest.0 (omega arith) in omega arith))
          (λ ne. ap (λ b. cond b 1 0 + tally (only l) n) (ne_eqb n l ne) ∙ (let z = rest.1 (omega arith) in omega arith))
          (cases_eq n l)),
    )

size_only : (l : ℕ) → l < 256 → size (only l) ≡ 1
unfolding size
size_only l h = (one_is_one l 256).1 h

-- the load of a clean sheet is its number of places
pub weight_clean : (w : List ℕ) (q : ℕ) → q ≤ 256 → every (λ l. ltb l q) w ≡ true → weight (clean w) ≡ length w
weight_clean [] q h e = refl
weight_clean (l ∷ w) q h e =
    let p = and_parts (ltb l q) (every (λ l. ltb l q) w) e in
    let a = size_only l (let z = ltb-true l q p.0 in omega arith) in
    let b = weight_clean w q h p.1 in
    sum_by-cons size (only l) (clean w) ∙ ap₂ ◌+◌ a b ∙ (let z : 1 + length w ≡ suc (length w) = omega arith in z)

-- a word scores in full on its own sheet
pub hits_self : (w : List ℕ) → hits (clean w) w ≡ length w
hits_self [] = refl
hits_self (l ∷ w) = ap (λ b. cond b 1 0 + hits (clean w) w) (eq-eqb l l refl) ∙ (let h = hits_self w in omega arith)

-- the places, among those from i on, at which two rows of values agree
pub hits_points : {X : Type 0} (f g : X → ℕ) (ps : List X) → hits (clean (map f ps)) (map g ps) ≡ length (filter (λ i. eqb (g i) (f i)) ps)
hits_points f g [] = refl
hits_points f g (i ∷ ps) =
    let h = hits_points f g ps in
    elim (eqb (g i) (f i)) as (λ b. cond b 1 0 + hits (clean (map f ps)) (map g ps) ≡ length (cond b (i ∷ filter (λ i. eqb (g i) (f i)) ps) (filter (λ i. eqb (g i) (f i)) ps)))
    [ true ↦ omega arith | false ↦ omega arith ]

-- past the end of either there is no score
pub hits_past : (ms : List Marks) (w : List ℕ) (i : ℕ) → min (length ms) (length w) ≤ i → hits (map stands (drop i ms)) (drop i w) ≡ 0
hits_past [] w zero h = refl
hits_past [] w (suc i) h = refl
hits_past (m ∷ ms) [] zero h = refl
hits_past (m ∷ ms) (l ∷ w) zero h = absurd (omega arith)
hits_past (m ∷ ms) [] (suc i) h = elim (drop i ms) as (λ d. hits (map stands d) [] ≡ 0) [ [] ↦ refl | n ∷ ns ↦ refl ]
hits_past (m ∷ ms) (l ∷ w) (suc i) h = hits_past ms w i (omega arith)
