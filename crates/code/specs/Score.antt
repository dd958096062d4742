-- How far a word agrees with a sheet.
use Rattle.std.specs.Prelude.{ℕ, ◌+◌, if◌then◌else◌, List, [], ◌∷◌}
use Rattle.sheet.specs.Letters.{Sheet}

-- the number of places whose set holds the word's letter
abbrev pub hits : Sheet → List ℕ → ℕ
hits [] w = 0
hits (s ∷ ss) [] = 0
hits (s ∷ ss) (l ∷ w) = (if s l then 1 else 0) + hits ss w
