-- When a list by a concatenated code is out of reach, and that it keeps the listing rule.
use Rattle.std.specs.Prelude.{◌≡◌, ℕ, ◌<◌, ◌≤◌, true, ◌⊎◌, Err, Result}
use Rattle.fault.specs.declared.Fault.{Fault}
use Rattle.fault.specs.declared.Fault.TheVariants.{Reach as OutOfReach}
use Rattle.fault.specs.declared.Reach.{Reach}
use Rattle.sheet.specs.Letters.{Sheet}
use Rattle.code.specs.Meaning.{Meaning, Verdict, within, beyond, is_sheet}
use Rattle.code.specs.Rule.{ListingRule}
use Rattle.code.specs.Answers.{listed}
use Rattle.concatenated.specs.Lifted.{block, lifted}
use Rattle.concatenated.specs.Concatenation.{concatenated, Joined}

abbrev pub Iff : Type 0 → Type 0 → Type 0
Iff P Q = (P → Q) × (Q → P)

-- the verdict is no
abbrev pub Beyond : Verdict → Type 0
Beyond within = ⊥
Beyond (beyond level place) = Unit {0}

-- some block is out of reach for the inner code
pub record BlockOut (mi : Meaning) (a : ℕ) (s : Sheet) (blocks : ℕ) : Type 0 where
  pub which : ℕ
  pub one : which < blocks
  pub out : Beyond (mi.reach (block mi.n s which) a)

-- some block is out of reach for the inner code, or the lifted sheet for the outer code
abbrev pub PartOut : Meaning → Meaning → ℕ → Sheet → ℕ → Type 0
PartOut mo mi a s t = BlockOut mi a s mo.n ⊎ Beyond (mo.reach (lifted mo.n mi a s) t)

-- a list is refused by REACH
abbrev pub SaysReach : Result ℕ Fault → Type 0
SaysReach r = (x : Reach) × (r ≡ Err (OutOfReach x))

-- a concatenated code is out of reach just where a part is
abbrev pub OutByParts : Type 0
OutByParts = (mo mi : Meaning) (a : ℕ) (s : Sheet) (t : ℕ) → Iff (Beyond ((concatenated mo mi a).reach s t)) (PartOut mo mi a s t)

-- and its list, on a sheet of the code and in range, answers REACH just there
abbrev pub ReachByParts : Type 0
ReachByParts =
    (mo mi : Meaning) (a : ℕ) (s : Sheet) (t len : ℕ) → is_sheet (concatenated mo mi a) s ≡ true → 1 ≤ t → t ≤ mo.top
    → Iff (SaysReach (listed (concatenated mo mi a) s t len)) (PartOut mo mi a s t)

-- over two lawful codes it is lawful, so it may stand inside another
abbrev pub LawfulOverLawful : Type 0
LawfulOverLawful = (mo mi : Meaning) (a : ℕ) → ListingRule mo → ListingRule mi → Joined mo mi a → ListingRule (concatenated mo mi a)
