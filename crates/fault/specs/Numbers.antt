-- The number of each refusal.
use Rattle.std.specs.Prelude.{ℕ}
use Rattle.fault.specs.declared.Fault.{Fault}
use Rattle.fault.specs.declared.Fault.TheVariants.{Field, Shape, Generator, Join, Place, Letter, Agreement, Sheet, Length, Message, Kind, Cut, Long, Code, Reach, Short, Empty, Unchosen, Chosen, Twice, Full}

abbrev pub number : Fault → ℕ
-- for the input, 1 to 14
number Field = 1
number Shape = 2
number Generator = 3
number Join = 4
number Place = 5
number Letter = 6
number Agreement = 7
number Sheet = 8
number Length = 9
number Message = 10
number Kind = 11
number Cut = 12
number Long = 13
number Code = 14
-- for the state, from 20 on
number (Reach r) = 20
number Short = 21
number Empty = 22
number Unchosen = 23
number Chosen = 24
number Twice = 25
number Full = 26
