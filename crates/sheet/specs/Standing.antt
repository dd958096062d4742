-- The set of letters that a value of `Marks` holds.
use Rattle.std.specs.Prelude.{ℕ, ◌/◌, ◌%◌, ◌^◌, List, map, ◌==◌, slice_index}
use Rattle.sheet.specs.Letters.{Letters, Sheet, weight}
use Rattle.sheet.specs.declared.marks.Marks.{Marks}

-- the set that words of 64 marks hold: letter l is bit l % 64 of word l / 64
unfoldable pub marked : List ℕ → Letters
marked ws = λ l. (slice_index ws (l / 64) / 2 ^ (l % 64) % 2 == 1)

abbrev pub stands : Marks → Letters
stands m = marked m.words

-- a slice of marks as a sheet
abbrev pub sheet_of : List Marks → Sheet
sheet_of ms = map stands ms

-- the number of letters that stand in a slice of marks
abbrev pub total : List Marks → ℕ
total ms = weight (sheet_of ms)
