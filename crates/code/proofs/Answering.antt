-- What a list answers and leaves, case by case.
use Rattle.std.proofs.Common.{◌≡◌, ℕ, ◌≤◌, Bool, true, false, cond, ◌&&◌, leb, List, replicate, Ok, Err, Result, sym, refl, ap, ◌∙◌, arith}
use Rattle.std.proofs.lemmas.Bool.{cond-true, and_from, le-leb}
use Rattle.fault.specs.declared.Fault.{Fault}
use Rattle.fault.specs.declared.Fault.TheVariants.{Agreement, Sheet as BadSheet, Reach as OutOfReach}
use Rattle.code.specs.Meaning.{Meaning, beyond, is_sheet, listing}
use Rattle.sheet.specs.Letters.{Sheet}
use Rattle.code.specs.Answers.{admitted, listed, shown, laid, reached}

-- what is not refused for the sheet or the agreement
pub admitted_parts : (m : Meaning) (s : Sheet) (t : ℕ) → admitted m s t ≡ Ok tt → (is_sheet m s ≡ true) × ((leb 1 t && leb t m.top) ≡ true)
admitted_parts m s t e = by (is_sheet m s) (leb 1 t && leb t m.top) e
  where
    by : (a b : Bool) → ◌≡◌ {A = Result (Unit {0}) Fault} (cond a (cond b (Ok tt) (Err Agreement)) (Err BadSheet)) (Ok tt) → (a ≡ true) × (b ≡ true)
    by true true e = (refl, refl)
    by true false e = absurd (let z : ◌≡◌ {A = ℕ} 0 1 = cc in omega arith)
    by false b e = absurd (let z : ◌≡◌ {A = ℕ} 0 1 = cc in omega arith)

-- what is refused for them
pub admitted_err : (m : Meaning) (s : Sheet) (t len : ℕ) (f : Fault) → admitted m s t ≡ Err f → shown m s t len ≡ replicate len 0
admitted_err m s t len f e = ap (laid len (listing m s t)) (by (is_sheet m s) (leb 1 t && leb t m.top) e)
  where
    by : (a b : Bool) → ◌≡◌ {A = Result (Unit {0}) Fault} (cond a (cond b (Ok tt) (Err Agreement)) (Err BadSheet)) (Err f)
        → ◌≡◌ {A = Result ℕ Fault} (cond a (cond b (reached m.k len (listing m s t) (m.reach s t)) (Err Agreement)) (Err BadSheet)) (Err f)
    by true true e = absurd (let z : ◌≡◌ {A = ℕ} 0 1 = cc in omega arith)
    by true false e = cc
    by false b e = cc

-- an answer, and the buffer with it
pub record Said (m : Meaning) (s : Sheet) (t len : ℕ) (r : Result ℕ Fault) (bytes : List ℕ) : Type 0 where
  pub answer : r ≡ listed m s t len
  pub buffer : bytes ≡ shown m s t len

module _ (m : Meaning) (s : Sheet) (t len : ℕ) where
  refused : (f : Fault) → listed m s t len ≡ Err f → Said m s t len (Err f) (replicate len 0)
  refused f e = record { answer = sym e; buffer = sym (ap (laid len (listing m s t)) e) }

  module _ (hs : is_sheet m s ≡ true) where
    module _ (lo : 1 ≤ t) (hi : t ≤ m.top) where
      past : listed m s t len ≡ reached m.k len (listing m s t) (m.reach s t)
      past = cond-true (is_sheet m s) _ _ hs ∙ cond-true (leb 1 t && leb t m.top) _ _ (and_from _ _ (le-leb 1 t lo) (le-leb t m.top hi))

      pub says_reach : (level place : ℕ) → m.reach s t ≡ beyond level place → Said m s t len (Err (OutOfReach (record { level = level; place = place }))) (replicate len 0)
      says_reach level place e = refused _ (past ∙ ap (reached m.k len (listing m s t)) e)
