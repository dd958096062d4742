-- The values of the program's type `Generator`, by what they mean. A field's meaning comes from its own type.
use Rattle.std.specs.Prelude.{◌≡◌, ℕ, ◌*◌, ◌&&◌, List, Ok, Err, Result, if◌then◌else◌}
use Rattle.fault.specs.declared.Fault.{Fault}
use Rattle.fault.specs.declared.Fault.TheVariants.{Shape, Generator as BadTable}
use Rattle.algebra.specs.Field.{Meaning as Field}
use Rattle.field.specs.declared.traits.Field.{Ghosts}
use Rattle.code.specs.Answers.{padded}
use Rattle.code.specs.Meaning.{Meaning}
use Rattle.code.specs.Messages.{is_row}
use Rattle.generator.specs.declared.table.Generator.{Generator}
use Rattle.generator.specs.Generator.{gen_meaning, gen_distance, gen_shaped, has_identity, table_size}

-- which test of a making fails, if any
abbrev pub checked : Field → (n k : ℕ) → List ℕ → Result (Unit {0}) Fault
checked F n k rows = if gen_shaped F.size n k then (if is_row (k * n) F.size rows && has_identity rows n k then Ok tt else Err BadTable) else Err Shape

module _ {X : Type 0} {G : Ghosts X} where
  -- the code that a value is
  abbrev pub meaning_of : Generator X G → Meaning
  meaning_of c = gen_meaning (G.means c.field) c.table c.n c.k

  abbrev pub distance_of : Generator X G → ℕ
  distance_of c = gen_distance (G.means c.field) c.table c.n c.k

  -- what a making answers: the value with its rows in a table of fixed size, or the refusal
  abbrev pub Makes : X → (n k : ℕ) → List ℕ → Result (Generator X G) Fault → Type 0
  Makes field n k rows (Ok c) = (checked (G.means field) n k rows ≡ Ok tt) × (c.field ≡ field) × (c.table ≡ padded table_size rows) × (c.n ≡ n) × (c.k ≡ k)
  Makes field n k rows (Err f) = checked (G.means field) n k rows ≡ Err f
