-- How long a Reed-Solomon list is.
use Rattle.std.specs.Prelude.{◌≡◌, ℕ, ◌-◌, ◌≤◌, true, List, length, Ok, Err, Result}
use Rattle.fault.specs.declared.Fault.{Fault}
use Rattle.algebra.specs.Field.{Meaning as Field, Laws}
use Rattle.sheet.specs.Letters.{Sheet, weight}
use Rattle.counting.specs.Counting.{limits, in_reach}
use Rattle.code.specs.Meaning.{is_sheet, listing}
use Rattle.reed_solomon.specs.ReedSolomon.{rs_at, Bounds, Points}

-- in reach, no more messages have the agreement than the highest power of y counts, fifteen
abbrev pub FewListed : Type 0
FewListed =
    (F : Field) → Laws F → (n k : ℕ) → Bounds n k → (points : List ℕ) → Points F n points
    → (s : Sheet) (t : ℕ) → is_sheet (rs_at limits F n points k) s ≡ true → 1 ≤ t → t ≤ n
    → in_reach limits (k - 1) t (weight s) ≡ true → length (listing (rs_at limits F n points k) s t) ≤ limits.power

-- an answer that counts no more than so many messages, or refuses
abbrev pub Few : Result ℕ Fault → Type 0
Few (Ok count) = count ≤ limits.power
Few (Err fault) = Unit {0}
