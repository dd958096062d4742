-- A call as a command.
use Rattle.std.specs.Prelude.{ℕ, List, ◌++◌, codes, decimal}
use Rattle.record.specs.declared.calls.Call.{Call}
use Rattle.record.specs.declared.calls.Call.TheVariants.{Hear, Strike, List as ListAt}

abbrev pub words : Call → List ℕ
words (Hear place letter) = codes "hear " ++ decimal place ++ codes " " ++ decimal letter
words (Strike place) = codes "strike " ++ decimal place
words (ListAt t room) = codes "list " ++ decimal t
