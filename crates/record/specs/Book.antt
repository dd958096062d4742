-- The plain book of a code: one set of letters for each place, by the calls' arguments alone.
use Rattle.std.specs.Prelude.{◌≡◌, ℕ, ◌-◌, min, if◌then◌else◌, List, [], ◌∷◌, ◌++◌, length, take, drop, replicate, Ok, Err, Result, ◌==◌, nat_lt, slice_index_or, slice_set}
use Rattle.fault.specs.declared.Fault.{Fault}
use Rattle.fault.specs.declared.Fault.TheVariants.{Place, Letter, Empty}
use Rattle.sheet.specs.Letters.{Letters, Sheet, none, join, size}
use Rattle.code.specs.Meaning.{Meaning}
use Rattle.code.specs.Answers.{listed, shown}
use Rattle.record.specs.declared.calls.Call.{Call}
use Rattle.record.specs.declared.calls.Call.TheVariants.{Hear, Strike, List as Lists}

-- a count, or why the call is refused
abbrev pub Answer : Type 0
Answer = Result ℕ Fault

-- the empty book
abbrev pub fresh : Meaning → Sheet
fresh m = replicate m.n none

-- the letters at place p
abbrev pub at : Sheet → ℕ → Letters
at s p = slice_index_or s p none

-- hear: PLACE, then LETTER; else the letter joins, and the answer is how many then stand
abbrev pub hear_says : Meaning → Sheet → ℕ → ℕ → Answer
hear_says m s p l = if nat_lt p m.n then (if nat_lt l m.q then Ok (size (join l (at s p))) else Err Letter) else Err Place

abbrev pub heard : Meaning → Sheet → ℕ → ℕ → Sheet
heard m s p l = if nat_lt p m.n then (if nat_lt l m.q then slice_set s p (join l (at s p)) else s) else s

-- strike: PLACE, then EMPTY; else the answer is how many stood, and none is left
abbrev pub strike_says : Meaning → Sheet → ℕ → Answer
strike_says m s p = if nat_lt p m.n then (if size (at s p) == 0 then Err Empty else Ok (size (at s p))) else Err Place

abbrev pub struck : Meaning → Sheet → ℕ → Sheet
struck m s p = if nat_lt p m.n then (if size (at s p) == 0 then s else slice_set s p none) else s

-- how many of the bytes that are left a call takes for its buffer
abbrev pub takes : Call → ℕ → ℕ
takes (Hear p l) left = 0
takes (Strike p) left = 0
takes (Lists t room) left = min room left

-- one call: what it answers where its buffer has len bytes, the book after it, and what it leaves in its buffer
abbrev pub says : Meaning → Sheet → Call → ℕ → Answer
says m s (Hear p l) len = hear_says m s p l
says m s (Strike p) len = strike_says m s p
says m s (Lists t room) len = listed m s t len

abbrev pub next : Meaning → Sheet → Call → Sheet
next m s (Hear p l) = heard m s p l
next m s (Strike p) = struck m s p
next m s (Lists t room) = s

abbrev pub left_in : Meaning → Sheet → Call → List ℕ → List ℕ
left_in m s (Hear p l) bs = bs
left_in m s (Strike p) bs = bs
left_in m s (Lists t room) bs = shown m s t (length bs)

-- the book after all the calls
abbrev pub run : Meaning → Sheet → List Call → Sheet
run m s [] = s
run m s (c ∷ cs) = run m (next m s c) cs

-- what they answer, with so many bytes for their buffers
abbrev pub answers : Meaning → Sheet → List Call → ℕ → List Answer
answers m s [] left = []
answers m s (c ∷ cs) left = says m s c (takes c left) ∷ answers m (next m s c) cs (left - takes c left)

-- what they leave in the bytes: each call has the next of them for its buffer, and the rest stay
abbrev pub written : Meaning → Sheet → List Call → List ℕ → List ℕ
written m s [] bs = bs
written m s (c ∷ cs) bs = left_in m s c (take (takes c (length bs)) bs) ++ written m (next m s c) cs (drop (takes c (length bs)) bs)

-- the calls that have a slot for their answer: these are served
abbrev pub served : List Call → List Answer → List Call
served calls slots = take (length slots) calls

-- a record in which s stood, given these calls, slots and bytes, then has the letters s', the slots slots' and the bytes bytes' by its book
pub record ByTheBook (m : Meaning) (s : Sheet) (calls : List Call) (slots : List Answer) (bytes : List ℕ) (s' : Sheet) (slots' : List Answer) (bytes' : List ℕ) : Type 0 where
  pub letters : s' ≡ run m s (served calls slots)
  -- slots beyond the calls stay
  pub replies : slots' ≡ answers m s (served calls slots) (length bytes) ++ drop (length calls) slots
  pub buffers : bytes' ≡ written m s (served calls slots) bytes
