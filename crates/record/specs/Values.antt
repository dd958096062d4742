-- The values of the program's type `Record`, by what they mean. A code's meaning comes from its own type.
use Rattle.std.specs.Prelude.{take}
use Rattle.sheet.specs.Letters.{Sheet}
use Rattle.sheet.specs.Standing.{sheet_of}
use Rattle.code.specs.Meaning.{Meaning}
use Rattle.record.specs.declared.recording.Record.{Record}

module _ {C : Type 0} (means : C → Meaning) where
  -- the code of a record
  abbrev pub code_of : Record C → Meaning
  code_of r = means r.code

  -- its standing letters: one set for each place of the code
  abbrev pub letters_of : Record C → Sheet
  letters_of r = sheet_of (take (means r.code).n r.sheet)
