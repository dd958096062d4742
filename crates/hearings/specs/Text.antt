-- The text of a hearings file.
use Rattle.std.specs.Prelude.{ℕ, List, [], ◌∷◌, ◌++◌, length, replicate, Some, None, Ok, Err, Option, nat_lt, if◌then◌else◌}
use Rattle.fault.specs.declared.Fault.{Fault}
use Rattle.fault.specs.declared.Fault.TheVariants.{Long, Code, Unchosen, Chosen}
use Rattle.sheet.specs.Letters.{Sheet}
use Rattle.code.specs.Meaning.{Meaning}
use Rattle.code.specs.Messages.{each, rows}
use Rattle.record.specs.declared.calls.Call.{Call}
use Rattle.record.specs.declared.calls.Call.TheVariants.{Hear, Strike, List as Lists}
use Rattle.record.specs.Book.{Answer, fresh, says, next, left_in}
use Rattle.house_codes.specs.House.{house}
use Rattle.hearings.specs.Lines.{choice_line, refusal, list_line, message_line}
use Rattle.hearings.specs.File.{longest, room, Entry, choose, call, bad, entries}

-- what the reader has: no code yet, or a code and its plain book
pub data Book : Type 0 where
  unchosen : Book
  chosen : Meaning → Sheet → Book

-- a choice, by the house code with that number
abbrev pub opened : Option Meaning → Book
opened None = unchosen
opened (Some m) = chosen m (fresh m)

abbrev pub choice_lines : ℕ → ℕ → Option Meaning → List ℕ
choice_lines at c None = refusal at Code
choice_lines at c (Some m) = choice_line c m

-- why a choice after a choice is refused: first CODE, then CHOSEN
abbrev pub again : Option Meaning → Fault
again None = Code
again (Some m) = Chosen

-- what a call that is accepted prints: a list its count and its messages, the others nothing
abbrev pub accepted_lines : (k : ℕ) → Call → ℕ → List ℕ → List ℕ
accepted_lines k (Hear p l) count bytes = []
accepted_lines k (Strike p) count bytes = []
accepted_lines k (Lists t r) count bytes = list_line t count ++ each message_line (rows k count bytes)

abbrev pub answer_lines : (at k : ℕ) → Call → Answer → List ℕ → List ℕ
answer_lines at k x (Ok count) bytes = accepted_lines k x count bytes
answer_lines at k x (Err f) bytes = refusal at f

-- what a call prints by the book: from its answer and its buffer
abbrev pub call_lines : ℕ → Meaning → Sheet → Call → List ℕ
call_lines at m s x = answer_lines at m.k x (says m s x room) (left_in m s x (replicate room 0))

-- what a record prints, and the book after it
abbrev pub lines_of : Book → ℕ → Entry → List ℕ
lines_of unchosen at (choose c) = choice_lines at c (house c)
lines_of unchosen at (call x) = refusal at Unchosen
lines_of unchosen at (bad f) = refusal at f
lines_of (chosen m s) at (choose c) = refusal at (again (house c))
lines_of (chosen m s) at (call x) = call_lines at m s x
lines_of (chosen m s) at (bad f) = refusal at f

abbrev pub turned : Book → Entry → Book
turned unchosen (choose c) = opened (house c)
turned unchosen (call x) = unchosen
turned unchosen (bad f) = unchosen
turned (chosen m s) (choose c) = chosen m s
turned (chosen m s) (call x) = chosen m (next m s x)
turned (chosen m s) (bad f) = chosen m s

-- what the records print one after another
unfoldable pub lines : Book → List (ℕ × Entry) → List ℕ
lines b [] = []
lines b (e ∷ es) = lines_of b e.0 e.1 ++ lines (turned b e.1) es

-- the text of a file; one that is too long is not read
unfoldable pub text_of : List ℕ → List ℕ
unfolding lines
text_of file = if nat_lt longest (length file) then refusal longest Long else lines unchosen (entries file)
