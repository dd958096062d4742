-- The standing letters by the history of the calls: which were made, and which were accepted. No book is kept.
use Rattle.std.specs.Prelude.{◌≡◌, ℕ, ◌-◌, ◌<◌, true, List, [], ◌∷◌, length, take, drop, is_ok, Err, slice_index_or}
use Rattle.fault.specs.declared.Fault.TheVariants.{Place}
use Rattle.sheet.specs.Letters.{Sheet}
use Rattle.code.specs.Meaning.{Meaning}
use Rattle.concatenated.specs.Reaching.{Iff}
use Rattle.record.specs.declared.calls.Call.{Call}
use Rattle.record.specs.declared.calls.Call.TheVariants.{Hear, Strike}
use Rattle.record.specs.Book.{Answer, at, takes}

-- call i, counted from 0, and its answer; what stands here for an i past the last is never asked for
abbrev pub call_at : List Call → ℕ → Call
call_at calls i = slice_index_or calls i (Hear 0 0)

abbrev pub answer_at : List Answer → ℕ → Answer
answer_at answers i = slice_index_or answers i (Err Place)

-- there is a call i, and it is c
abbrev pub IsCall : List Call → ℕ → Call → Type 0
IsCall calls i c = (i < length calls) × (call_at calls i ≡ c)

-- call i was accepted
abbrev pub Accepted : List Answer → ℕ → Type 0
Accepted answers i = is_ok (answer_at answers i) ≡ true

-- some accepted call hears letter l at place p, and no accepted call after it strikes the place
pub record HeardSince (calls : List Call) (answers : List Answer) (p l : ℕ) : Type 0 where
  pub when : ℕ
  pub hears : IsCall calls when (Hear p l)
  pub accepted : Accepted answers when
  pub kept : (j : ℕ) → when < j → IsCall calls j (Strike p) → Accepted answers j → ⊥

-- a letter stands in s just where it was so heard
abbrev pub Remembers : Sheet → List Call → List Answer → Type 0
Remembers s calls answers = (p l : ℕ) → Iff (at s p l ≡ true) (HeardSince calls answers p l)

-- s has a set for each place of the code, and holds just the letters that the first i calls left
pub record StandsAfter (m : Meaning) (calls : List Call) (answers : List Answer) (i : ℕ) (s : Sheet) : Type 0 where
  pub places : length s ≡ m.n
  pub letters : Remembers s (take i calls) answers

-- what the calls leave of so many bytes, where each has the next of them for its buffer
abbrev pub left_after : List Call → ℕ → ℕ
left_after [] left = left
left_after (c ∷ cs) left = left_after cs (left - takes c left)

-- the buffer of call i, of `total` bytes for all: how many bytes it has, and which of them they are
abbrev pub room_of : List Call → (total i : ℕ) → ℕ
room_of calls total i = takes (call_at calls i) (left_after (take i calls) total)

abbrev pub buffer_of : List Call → (total i : ℕ) → List ℕ → List ℕ
buffer_of calls total i bytes = take (room_of calls total i) (drop (total - left_after (take i calls) total) bytes)
