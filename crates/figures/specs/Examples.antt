-- The codes and sheets of the worked figures.
use Rattle.std.specs.Prelude.{ℕ, List, [], ◌∷◌}
use Rattle.sheet.specs.Letters.{Sheet}
use Rattle.algebra.specs.Prime.{prime}
use Rattle.code.specs.Meaning.{Meaning, clean}
use Rattle.generator.specs.Generator.{gen_meaning}
use Rattle.counting.specs.Counting.{limits}
use Rattle.reed_solomon.specs.ReedSolomon.{rs_meaning}

-- the table of the slab's inner code, row after row
abbrev pub slab_rows : List ℕ
slab_rows =
    1 ∷ 0 ∷ 0 ∷ 0 ∷ 0 ∷ 1 ∷ 1 ∷ 1 ∷
    0 ∷ 1 ∷ 0 ∷ 0 ∷ 1 ∷ 0 ∷ 1 ∷ 1 ∷
    0 ∷ 0 ∷ 1 ∷ 0 ∷ 1 ∷ 1 ∷ 0 ∷ 1 ∷
    0 ∷ 0 ∷ 0 ∷ 1 ∷ 1 ∷ 1 ∷ 1 ∷ 0 ∷ []

abbrev pub slab_inner : Meaning
slab_inner = gen_meaning (prime 2) slab_rows 8 4

-- one letter heard at each place: 1 1 0 0 0 0 0 0
abbrev pub slab_block : Sheet
slab_block = clean (1 ∷ 1 ∷ 0 ∷ 0 ∷ 0 ∷ 0 ∷ 0 ∷ 0 ∷ [])

-- the Reed-Solomon code of 5 places and 2 message letters over 5 elements, with the letters 0 1 2 0 0 heard
abbrev pub five : Meaning
five = rs_meaning limits (prime 5) 5 2

abbrev pub five_sheet : Sheet
five_sheet = clean (0 ∷ 1 ∷ 2 ∷ 0 ∷ 0 ∷ [])
