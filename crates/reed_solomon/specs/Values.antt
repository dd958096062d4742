-- The values of the program's type `ReedSolomon`, by what they mean. A field's meaning comes from its own type.
use Rattle.field.specs.declared.traits.Field.{Ghosts}
use Rattle.counting.specs.Counting.{limits}
use Rattle.code.specs.Meaning.{Meaning}
use Rattle.reed_solomon.specs.ReedSolomon.{rs_meaning}
use Rattle.reed_solomon.specs.declared.evaluation.ReedSolomon.{ReedSolomon}

-- the code that a value is
abbrev pub meaning_of : {X : Type 0} {G : Ghosts X} → ReedSolomon X G → Meaning
meaning_of {X} {G} c = rs_meaning limits (G.means c.field) c.n c.k
