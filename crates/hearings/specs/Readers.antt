-- The values of the program's types `Choice` and `Reader`, by what they mean.
use Rattle.std.specs.Prelude.{◌≡◌, ℕ, Some, None, Ok, Err, Result}
use Rattle.fault.specs.declared.Fault.{Fault}
use Rattle.fault.specs.declared.Fault.TheVariants.{Code}
use Rattle.code.specs.Meaning.{Meaning}
use Rattle.record.specs.Values.{letters_of}
use Rattle.house_codes.specs.House.{slab, header, brine, house}
use Rattle.code.specs.declared.traits.Code.{Ghosts}
use Rattle.hearings.specs.declared.records.HouseRecord.{HouseRecord}
use Rattle.hearings.specs.declared.choices.Choice.{Choice}
use Rattle.hearings.specs.declared.choices.Choice.TheVariants as choice
use Rattle.hearings.specs.declared.readers.Reader.{Reader}
use Rattle.hearings.specs.declared.readers.Reader.TheVariants.{Unchosen, Slab, Header, Brine}
use Rattle.hearings.specs.Text.{Book, unchosen, chosen, opened}

-- the number of a choice, and the code that it means
abbrev pub number_of : Choice → ℕ
number_of choice.Slab = 1
number_of choice.Header = 2
number_of choice.Brine = 3

abbrev pub meaning_of : Choice → Meaning
meaning_of choice.Slab = slab
meaning_of choice.Header = header
meaning_of choice.Brine = brine

-- the choice with a number, or CODE where there is no such code
abbrev pub Chooses : ℕ → Result Choice Fault → Type 0
Chooses n (Ok c) = (n ≡ number_of c) × (house n ≡ Some (meaning_of c))
Chooses n (Err f) = (f ≡ Code) × (house n ≡ None)

-- the code of a record, and the letters that stand in it
abbrev pub kept : {X : Type 0} {C : Ghosts X} → HouseRecord X C → Book
kept {X} {C} r = chosen (C.means r.record.code) (letters_of C.means r.record)

-- what a reader has: no code, or those of its record
abbrev pub book_of : Reader → Book
book_of Unchosen = unchosen
book_of (Slab r) = kept r
book_of (Header r) = kept r
book_of (Brine r) = kept r

-- an empty record of the chosen code
abbrev pub Opens : Choice → Reader → Type 0
Opens c r = book_of r ≡ opened (Some (meaning_of c))
