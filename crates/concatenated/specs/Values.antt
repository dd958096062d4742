-- The values of the program's type `Concatenated`, by what they mean. The meanings of the two codes come from their own types.
use Rattle.code.specs.Meaning.{Meaning}
use Rattle.code.specs.declared.traits.Code.{Ghosts}
use Rattle.concatenated.specs.declared.joining.Concatenated.{Concatenated}
use Rattle.concatenated.specs.Concatenation.{concatenated}

abbrev pub meaning_of : {X Y : Type 0} {O : Ghosts X} {I : Ghosts Y} → Concatenated X Y O I → Meaning
meaning_of {X} {Y} {O} {I} c = concatenated (O.means c.outer) (I.means c.inner) c.agreement
