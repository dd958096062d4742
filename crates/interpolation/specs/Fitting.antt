-- What a fitting answers: opening, taking a pair, walking.
use Rattle.std.specs.Prelude.{◌≡◌, ℕ, ◌+◌, ◌-◌, ◌*◌, ◌≤◌, Bool, false, ◌&&◌, ◌||◌, List, [], ◌∷◌, ◌++◌, length, Some, None, Ok, Err, Option, Result, ◌==◌, nat_le, nat_lt, if◌then◌else◌}
use Rattle.fault.specs.declared.Fault.{Fault}
use Rattle.fault.specs.declared.Fault.TheVariants.{Shape, Place, Letter, Reach as OutOfReach, Twice, Full}
use Rattle.algebra.specs.Field.{Meaning, codes}
use Rattle.algebra.specs.Interpolation.{Fitted}
use Rattle.algebra.specs.CodeRecovery.{Pairs as Different, table, at}
use Rattle.counting.specs.Counting.{limits, by_counting}
use Rattle.interpolation.specs.Size.{columns, rows}
use Rattle.interpolation.specs.declared.plan.Plan.{Plan}

-- the limits of k and t
abbrev pub shaped : (k t : ℕ) → Bool
shaped k t = nat_le 1 k && (nat_le k 16 && (nat_le 1 t && nat_le t 64))

abbrev pub reached_by : Option ℕ → Result ℕ Fault
reached_by (Some r) = Ok r
reached_by None = Err (OutOfReach (record { level = 0; place = 0 }))

-- what opening answers: the smallest multiplicity by which the limit meets the counting rule
abbrev pub opened : (k t limit : ℕ) → Result ℕ Fault
opened k t limit = if shaped k t then reached_by (by_counting limits (k - 1) t limit) else Err Shape

-- a plan for these arguments, or the refusal
abbrev pub Opens : (k t limit : ℕ) → Result Plan Fault → Type 0
Opens k t limit (Ok p) = (opened k t limit ≡ Ok p.r) × (p.k ≡ k) × (p.t ≡ t) × (p.limit ≡ limit)
Opens k t limit (Err f) = opened k t limit ≡ Err f

-- the pair (x, y) is among them
abbrev pub among : List ℕ → List ℕ → ℕ → ℕ → Bool
among [] ys x y = false
among (a ∷ xs) [] x y = false
among (a ∷ xs) (b ∷ ys) x y = (a == x && b == y) || among xs ys x y

-- the answer of taking the pair (x, y)
abbrev pub taken : Meaning → (limit : ℕ) → List ℕ → List ℕ → (x y : ℕ) → Result ℕ Fault
taken F limit xs ys x y =
    if nat_lt x F.size && nat_lt x 64
    then (if nat_lt y F.size
    then (if among xs ys x y then Err Twice else if nat_lt (length xs) limit then Ok (length xs + 1) else Err Full)
    else Err Letter)
    else Err Place

-- what is held after an answer
abbrev pub kept : Result ℕ Fault → List ℕ → ℕ → List ℕ
kept (Ok n) l x = l ++ x ∷ []
kept (Err f) l x = l

-- the pairs taken: different pairs of codes, no more than the limit
pub record Gathered (F : Meaning) (limit : ℕ) (xs ys : List ℕ) : Type 0 where
  pub pairs : Different F xs ys
  pub few : length xs ≤ limit

-- a curve that is not zero, of multiplicity r at every pair taken, and of weighted degree below r t
pub record Around (F : Meaning) (k t r : ℕ) (xs ys cells : List ℕ) : Type 0 where
  pub pairs : Different F xs ys
  pub fitted : Fitted (codes F) columns rows (k - 1) (r * t - 1) r (length xs) (at xs) (at ys) (table F columns cells)
