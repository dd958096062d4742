-- What the calls of a code answer, and what they leave in the buffer.
use Rattle.std.specs.Prelude.{ℕ, ◌-◌, ◌*◌, if◌then◌else◌, ◌&&◌, List, ◌++◌, length, replicate, Ok, Err, Result, ◌==◌, nat_le}
use Rattle.fault.specs.declared.Fault.{Fault}
use Rattle.fault.specs.declared.Fault.TheVariants.{Agreement, Sheet as BadSheet, Length, Message, Reach as OutOfReach, Short}
use Rattle.code.specs.Meaning.{Meaning, Verdict, within, beyond, is_sheet, listing}
use Rattle.sheet.specs.Letters.{Sheet}
use Rattle.code.specs.Messages.{is_row, each}

-- what encoding answers: a refusal for the size of the buffer comes before one for the message
abbrev pub encoded : Meaning → List ℕ → ℕ → Result (Unit {0}) Fault
encoded m x len = if len == m.n then (if is_row m.k m.p x then Ok tt else Err Message) else Err Length

-- what the buffer holds after an answer: what was written, and zeros in the rest
abbrev pub padded : ℕ → List ℕ → List ℕ
padded len bs = bs ++ replicate (len - length bs) 0

abbrev pub filled : Meaning → List ℕ → ℕ → List ℕ
filled m x len = if len == m.n then (if is_row m.k m.p x then m.word x else replicate len 0) else replicate len 0

-- what every list is refused for: a sheet that is none comes before an agreement out of range
abbrev pub admitted : Meaning → Sheet → ℕ → Result (Unit {0}) Fault
admitted m s t = if is_sheet m s then (if nat_le 1 t && nat_le t m.top then Ok tt else Err Agreement) else Err BadSheet

-- the answer where the verdict is v and the list L
abbrev pub reached : ℕ → ℕ → List (List ℕ) → Verdict → Result ℕ Fault
reached k len L within = if nat_le (k * length L) len then Ok (length L) else Err Short
reached k len L (beyond level place) = Err (OutOfReach (record { level = level; place = place }))

abbrev pub listed : Meaning → Sheet → ℕ → ℕ → Result ℕ Fault
listed m s t len =
    if is_sheet m s
    then (if nat_le 1 t && nat_le t m.top then reached m.k len (listing m s t) (m.reach s t) else Err Agreement)
    else Err BadSheet

-- the messages one after another and then zeros; after a refusal all zeros
abbrev pub laid : ℕ → List (List ℕ) → Result ℕ Fault → List ℕ
laid len L (Ok c) = padded len (each (λ x. x) L)
laid len L (Err f) = replicate len 0

abbrev pub shown : Meaning → Sheet → ℕ → ℕ → List ℕ
shown m s t len = laid len (listing m s t) (listed m s t len)
