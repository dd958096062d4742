-- What the codes of the house mean.
use Rattle.std.specs.Prelude.{ℕ, if◌then◌else◌, List, [], ◌∷◌, Some, None, Option, ◌==◌}
use Rattle.algebra.specs.Prime.{prime}
use Rattle.algebra.specs.Binary.{binary}
use Rattle.counting.specs.Counting.{limits}
use Rattle.code.specs.Meaning.{Meaning}
use Rattle.generator.specs.Generator.{gen_meaning}
use Rattle.reed_solomon.specs.ReedSolomon.{rs_meaning}
use Rattle.concatenated.specs.Concatenation.{concatenated}

-- the table of the slab's inner code, row after row
abbrev pub slab_rows : List ℕ
slab_rows =
    1 ∷ 0 ∷ 0 ∷ 0 ∷ 0 ∷ 1 ∷ 1 ∷ 1 ∷
    0 ∷ 1 ∷ 0 ∷ 0 ∷ 1 ∷ 0 ∷ 1 ∷ 1 ∷
    0 ∷ 0 ∷ 1 ∷ 0 ∷ 1 ∷ 1 ∷ 0 ∷ 1 ∷
    0 ∷ 0 ∷ 0 ∷ 1 ∷ 1 ∷ 1 ∷ 1 ∷ 0 ∷ []

abbrev pub slab_inner : Meaning
slab_inner = gen_meaning (prime 2) slab_rows 8 4

abbrev pub slab_outer : Meaning
slab_outer = rs_meaning limits (binary 4) 15 4

abbrev pub slab : Meaning
slab = concatenated slab_outer slab_inner 6

abbrev pub header : Meaning
header = rs_meaning limits (prime 11) 10 3

abbrev pub brine_inner : Meaning
brine_inner = rs_meaning limits (binary 4) 8 2

abbrev pub brine_outer : Meaning
brine_outer = rs_meaning limits (binary 8) 24 4

abbrev pub brine : Meaning
brine = concatenated brine_outer brine_inner 4

-- the house code with a number: 1 slab, 2 header, 3 brine
abbrev pub house : ℕ → Option Meaning
house c = if c == 1 then Some slab else (if c == 2 then Some header else (if c == 3 then Some brine else None))
