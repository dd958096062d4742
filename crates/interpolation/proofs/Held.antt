-- Whether a pair is among those held.
use Rattle.std.proofs.Common.{◌≡◌, ℕ, ◌&&◌, ◌||◌, ◌==◌, List, [], ◌∷◌, refl, ap}
use Rattle.std.specs.List.{list_any}
use Rattle.interpolation.specs.declared.pairs.Pair.{Pair}
use Rattle.interpolation.specs.Pairs.{points, values}
use Rattle.interpolation.specs.Fitting.{among}

-- some pair is the one looked for
pub any_among : (ps : List Pair) (x y : ℕ) → list_any (λ p. (p.point == x && p.value == y)) ps ≡ among (points ps) (values ps) x y
any_among [] x y = refl
any_among (p ∷ ps) x y = ap (λ b. ((p.point == x && p.value == y) || b)) (any_among ps x y)
