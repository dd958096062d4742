-- The values of the program's types, by what they mean.
use Rattle.std.specs.Prelude.{◌≡◌, ℕ, false, List, [], Some, None, Ok, Err, Option, Result, slice_index}
use Rattle.std.specs.Borrow.{Bor}
use Rattle.fault.specs.declared.Fault.{Fault}
use Rattle.fault.specs.declared.Fault.TheVariants.{Kind as UnknownKind}
use Rattle.code.specs.Messages.{each, rows}
use Rattle.record.specs.declared.calls.Call.TheVariants.{Hear, Strike, List as Lists}
use Rattle.hearings.specs.declared.items.Kind.{Kind}
use Rattle.hearings.specs.declared.items.Kind.TheVariants as kind
use Rattle.hearings.specs.declared.items.Item.{Item}
use Rattle.hearings.specs.declared.items.Item.TheVariants.{Choose, Heard, Struck, List as Listed}
use Rattle.hearings.specs.declared.messages.Messages.{Messages}
use Rattle.hearings.specs.Lines.{message_line}
use Rattle.hearings.specs.File.{room, known, Entry, choose, call, bad, Front, nothing, first}

-- the number of a kind
abbrev pub number_of_kind : Kind → ℕ
number_of_kind kind.Choose = 1
number_of_kind kind.Heard = 2
number_of_kind kind.Struck = 3
number_of_kind kind.List = 4

-- the kind with a number, or KIND where there is none
abbrev pub Kinds : ℕ → Result Kind Fault → Type 0
Kinds n (Ok k) = n ≡ number_of_kind k
Kinds n (Err f) = (f ≡ UnknownKind) × (known n ≡ false)

-- the record that a value of `Item` is
abbrev pub entry_of : Item → Entry
entry_of (Choose b) = choose (slice_index b.now 0)
entry_of (Heard b) = call (Hear (slice_index b.now 0) (slice_index b.now 1))
entry_of (Struck b) = call (Strike (slice_index b.now 0))
entry_of (Listed b) = call (Lists (slice_index b.now 0) room)

-- a record and the bytes after it, or why there is none
abbrev pub part_of : Result (Item × Bor (List ℕ)) Fault → Front
part_of (Ok p) = first (entry_of p.0) p.1.now
part_of (Err f) = first (bad f) []

-- the same, where nothing may be left
abbrev pub front_of : Result (Option (Item × Bor (List ℕ))) Fault → Front
front_of (Ok None) = nothing
front_of (Ok (Some p)) = part_of (Ok p)
front_of (Err f) = part_of (Err f)

-- the lines of the messages of a list
abbrev pub message_lines : Messages → List ℕ
message_lines x = each message_line (rows x.k x.count x.bytes.now)
