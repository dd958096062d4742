-- A refusal in words.
use Rattle.std.specs.Prelude.{ℕ, List, [], ◌∷◌, ◌++◌, codes, decimal}
use Rattle.fault.specs.Numbers.{number}
use Rattle.fault.specs.declared.Fault.{Fault}
use Rattle.fault.specs.declared.Fault.TheVariants.{Field, Shape, Generator, Join, Place, Letter, Agreement, Sheet, Length, Message, Kind, Cut, Long, Code, Reach, Short, Empty, Unchosen, Chosen, Twice, Full}

-- where a list is out of reach; other refusals have no place
abbrev pub where_out : Fault → List ℕ
where_out (Reach r) = codes " level " ++ decimal r.level ++ codes " place " ++ decimal r.place
where_out Field = []
where_out Shape = []
where_out Generator = []
where_out Join = []
where_out Place = []
where_out Letter = []
where_out Agreement = []
where_out Sheet = []
where_out Length = []
where_out Message = []
where_out Kind = []
where_out Cut = []
where_out Long = []
where_out Code = []
where_out Short = []
where_out Empty = []
where_out Unchosen = []
where_out Chosen = []
where_out Twice = []
where_out Full = []

abbrev pub words : Fault → List ℕ
words f = codes "refused " ++ decimal (number f) ++ where_out f
