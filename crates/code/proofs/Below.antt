-- The test of a sheet, letter by letter and place by place.
use Rattle.std.proofs.Common.{◌≡◌, ℕ, zero, suc, ◌<◌, ◌≤◌, Bool, true, false, not, ◌&&◌, ◌||◌, eqb, ltb, List, length, sym, refl, ap, ap₂, ◌∙◌, ⊎_elim, arith}
use Rattle.std.proofs.lemmas.List.{length-map}
use Rattle.std.proofs.lemmas.Bool.{and_from, and_left, and_right, or_left, or_right, or_from, not_from_true, not_from_false, lt-ltb, le-ltb, cases_lt, cases_eq}
use Rattle.sheet.specs.Letters.{Letters}
use Rattle.sheet.specs.Standing.{stands, sheet_of}
use Rattle.sheet.specs.declared.marks.Marks.{Marks}
use Rattle.code.specs.Meaning.{Meaning, below, is_sheet}
use Rattle.code.specs.Messages.{every}

-- no letter from q on stands below i
abbrev pub Clear : ℕ → Letters → ℕ → Type 0
Clear q s i = (l : ℕ) → l < i → q ≤ l → s l ≡ false

pub below_clear : (q : ℕ) (s : Letters) (i : ℕ) → Clear q s i → true ≡ below q i s
unfolding below
below_clear q s zero h = refl
below_clear q s (suc i) h =
    sym (and_from _ _
    (⊎_elim (λ lt. or_right (not (s i)) (ltb i q) (lt-ltb i q lt)) (λ le. or_left (not (s i)) (ltb i q) (not_from_false (s i) (h i (omega arith) le))) (cases_lt i q))
    (sym (below_clear q s i (λ l lt. h l (omega arith)))))

pub below_broken : (q : ℕ) (s : Letters) (n l : ℕ) → l < n → q ≤ l → s l ≡ true → false ≡ below q n s
unfolding below
below_broken q s zero l lt le e = absurd (omega arith)
below_broken q s (suc n) l lt le e =
    ⊎_elim
    (λ same. sym (and_left _ _ (ap (λ z. not (s z) || ltb z q) (sym same) ∙ or_from _ _ (not_from_true (s l) e) (le-ltb l q le))))
    (λ ne. sym (and_right _ _ (sym (below_broken q s n l (omega arith) le e))))
    (cases_eq l n)

-- the test of a sheet, on the marks themselves
pub sheet_is : (m : Meaning) (ms : List Marks) (n q : ℕ) (b : Bool) → b ≡ (eqb (length ms) n && every (below q 256) (sheet_of ms)) → n ≡ m.n → q ≡ m.q → b ≡ is_sheet m (sheet_of ms)
unfolding is_sheet
sheet_is m ms n q b e en eq =
    e ∙ ap₂ (λ k p. eqb (length ms) k && every (below p 256) (sheet_of ms)) en eq
    ∙ ap (λ l. eqb l m.n && every (below m.q 256) (sheet_of ms)) (sym (length-map ms stands))
