-- The pairs of a fitting.
use Rattle.std.specs.Prelude.{ℕ, List, map}
use Rattle.interpolation.specs.declared.pairs.Pair.{Pair}
use Rattle.interpolation.specs.declared.pairs.Pairs.{Pairs}

-- the points of pairs, and their values
abbrev pub points : List Pair → List ℕ
points ps = map (λ p. p.point) ps

abbrev pub values : List Pair → List ℕ
values ps = map (λ p. p.value) ps

-- the pairs held
abbrev pub pairs_of : Pairs → List Pair
pairs_of p = p.table.items

-- their points, and their values
abbrev pub points_of : Pairs → List ℕ
points_of p = points (pairs_of p)

abbrev pub values_of : Pairs → List ℕ
values_of p = values (pairs_of p)
