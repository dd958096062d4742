-- What one message adds to the list of a code, and to the search for the distance.
use Rattle.std.specs.Prelude.{ℕ, ◌^◌, min, Bool, List, [], length, nat_le, if◌then◌else◌}
use Rattle.std.proofs.Math.Seq.{paste}
use Rattle.sheet.specs.Letters.{Sheet}
use Rattle.code.specs.Meaning.{Meaning}
use Rattle.code.specs.Messages.{digits}
use Rattle.generator.specs.Generator.{nonzeros, blank}

-- how many messages there are, and the message with number v
abbrev pub how_many : Meaning → ℕ
how_many m = m.p ^ m.k

abbrev pub message : Meaning → ℕ → List ℕ
message m v = digits m.p m.k v

-- message v scores at least t
abbrev pub passes : Meaning → Sheet → ℕ → ℕ → Bool
passes m s t v = nat_le t (m.score s (message m v))

-- the letters that message v adds to the list
abbrev pub added : Meaning → Sheet → ℕ → ℕ → List ℕ
added m s t v = if passes m s t v then message m v else []

-- a buffer with letters written into it from a place on
abbrev pub written : ℕ → List ℕ → List ℕ → List ℕ
written at xs buf = paste buf at xs (length xs)

-- the fewer of best and the nonzero letters in the word of message v, where that is not the zero message
abbrev pub lower : Meaning → ℕ → ℕ → ℕ
lower m best v = if blank (message m v) then best else min best (nonzeros (m.word (message m v)))
