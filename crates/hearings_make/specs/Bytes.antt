-- The bytes of a hearings file.
use Rattle.std.specs.Prelude.{ℕ, List, [], ◌∷◌}
use Rattle.hearings_make.specs.declared.records.Record.{Record}
use Rattle.hearings_make.specs.declared.records.Record.TheVariants.{Choose, Heard, Struck, List as Lists, Byte}

-- a record's kind byte and its body
abbrev pub bytes_of : Record → List ℕ
bytes_of (Choose c) = 1 ∷ c ∷ []
bytes_of (Heard p l) = 2 ∷ p ∷ l ∷ []
bytes_of (Struck p) = 3 ∷ p ∷ []
bytes_of (Lists t) = 4 ∷ t ∷ []
bytes_of (Byte b) = b ∷ []
