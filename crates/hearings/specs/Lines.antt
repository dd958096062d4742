-- The lines of a text. Words and numbers are parted by single spaces, and a line ends in byte 10.
use Rattle.std.specs.Prelude.{ℕ, zero, suc, List, [], ◌∷◌, ◌++◌, codes, decimal}
use Rattle.fault.specs.Numbers.{number}
use Rattle.fault.specs.declared.Fault.{Fault}
use Rattle.fault.specs.declared.Fault.TheVariants.{Field, Shape, Generator, Join, Place, Letter, Agreement, Sheet, Length, Message, Kind, Cut, Long, Code, Reach, Short, Empty, Unchosen, Chosen, Twice, Full}
use Rattle.code.specs.Meaning.{Meaning}

-- words, and the number after them
abbrev pub field : List ℕ → ℕ → List ℕ
field words n = words ++ decimal n

abbrev pub newline : List ℕ
newline = 10 ∷ []

-- code C family F letters Q places P top T least L
abbrev pub choice_line : ℕ → Meaning → List ℕ
choice_line c m =
    field (codes "code ") c
    ++ (field (codes " family ") m.family
    ++ (field (codes " letters ") m.q
    ++ (field (codes " places ") m.n
    ++ (field (codes " top ") m.top
    ++ (field (codes " least ") m.least
    ++ newline)))))

-- where a list is out of reach; other refusals have no place
abbrev pub where_out : Fault → List ℕ
where_out (Reach r) = field (codes " level ") r.level ++ field (codes " place ") r.place
where_out Field = []
where_out Shape = []
where_out Generator = []
where_out Join = []
where_out Place = []
where_out Letter = []
where_out Agreement = []
where_out Sheet = []
where_out Length = []
where_out Message = []
where_out Kind = []
where_out Cut = []
where_out Long = []
where_out Code = []
where_out Short = []
where_out Empty = []
where_out Unchosen = []
where_out Chosen = []
where_out Twice = []
where_out Full = []

-- refused R at B, and for REACH level L place P
abbrev pub refusal : ℕ → Fault → List ℕ
refusal at f = field (codes "refused ") (number f) ++ (field (codes " at ") at ++ (where_out f ++ newline))

-- list T COUNT
abbrev pub list_line : ℕ → ℕ → List ℕ
list_line t count = field (codes "list ") t ++ (field (codes " ") count ++ newline)

-- what parts a letter from those before it, of which there are so many
abbrev pub gap : ℕ → List ℕ
gap zero = []
gap (suc i) = codes " "

-- the letters from letter i on
abbrev pub letters_from : ℕ → List ℕ → List ℕ
letters_from i [] = []
letters_from i (l ∷ ls) = field (gap i) l ++ letters_from (suc i) ls

-- the letters of a message
abbrev pub message_line : List ℕ → List ℕ
message_line x = letters_from 0 x ++ newline
