-- What lifting a sheet answers, block after block.
use Rattle.std.specs.Prelude.{◌≡◌, ℕ, ◌*◌, ◌^◌, ◌≤◌, true, length, Ok, Err, Result}
use Rattle.fault.specs.declared.Reach.{Reach}
use Rattle.sheet.specs.Letters.{Sheet}
use Rattle.sheet.specs.Standing.{stands}
use Rattle.sheet.specs.declared.marks.Marks.{Marks}
use Rattle.code.specs.Messages.{every}
use Rattle.code.specs.Meaning.{Meaning, Verdict, within, beyond, below, is_sheet, listing}
use Rattle.concatenated.specs.Lifted.{numbers, lifted}
use Rattle.concatenated.specs.Concatenation.{places_limit, or_block, reach_from, concatenated, Joined}

-- two codes that join, a sheet of the concatenated code, and an agreement in range
pub record InRange (mo mi : Meaning) (a : ℕ) (s : Sheet) (t : ℕ) : Type 0 where
  pub joined : Joined mo mi a
  pub sheet : is_sheet (concatenated mo mi a) s ≡ true
  pub low : 1 ≤ t
  pub high : t ≤ mo.top

-- an agreement at which a code's list fits the table that is kept for it, and its messages' numbers are letters
pub record Listable (mi : Meaning) (a : ℕ) : Type 0 where
  pub few : mi.p ^ mi.k ≤ 256
  pub low : 1 ≤ a
  pub high : a ≤ mi.top

-- a sheet of so many blocks, with letters of the inner code
pub record Blocks (mi : Meaning) (total : ℕ) (s : Sheet) : Type 0 where
  pub fits : total * mi.n ≤ places_limit
  pub whole : length s ≡ total * mi.n
  pub letters : every (below mi.q 256) s ≡ true

-- a block B: its messages' numbers, or where it is out of reach
abbrev pub Lifts : Meaning → ℕ → Sheet → Result Marks Reach → Type 0
Lifts mi a B (Ok marks) = (mi.reach B a ≡ within) × (stands marks ≡ numbers mi.p (listing mi B a))
Lifts mi a B (Err r) = mi.reach B a ≡ beyond r.level r.place

-- the same, with the place in the whole of a block that begins at `first`
abbrev pub LiftsAt : Meaning → ℕ → Sheet → ℕ → Result Marks Reach → Type 0
LiftsAt mi a B first (Ok marks) = (mi.reach B a ≡ within) × (stands marks ≡ numbers mi.p (listing mi B a))
LiftsAt mi a B first (Err r) = (after : Verdict) → or_block first (mi.reach B a) after ≡ beyond r.level r.place

-- all the blocks: the lifted sheet, or where one of them is out of reach, whatever comes after
abbrev pub LiftsAll : Meaning → ℕ → Sheet → ℕ → Sheet → Result (Unit {0}) Reach → Type 0
LiftsAll mi a s total above (Ok u) = ((after : Verdict) → reach_from mi a s 0 total after ≡ after) × (above ≡ lifted total mi a s)
LiftsAll mi a s total above (Err r) = (after : Verdict) → reach_from mi a s 0 total after ≡ beyond r.level r.place
