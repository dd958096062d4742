-- Letters that are not zero.
use Rattle.std.proofs.Common.{◌≡◌, ℕ, ◌+◌, true, false, cond, not, eqb, List, [], ◌∷◌, length, filter, refl, arith}
use Rattle.generator.specs.Generator.{nonzeros}

pub nonzeros_filtered : (w : List ℕ) → length (filter (λ l. not (eqb l 0)) w) ≡ nonzeros w
nonzeros_filtered [] = refl
nonzeros_filtered (l ∷ w) =
    let h = nonzeros_filtered w in
    elim (eqb l 0) as (λ b. length (cond (not b) (l ∷ filter (λ l. not (eqb l 0)) w) (filter (λ l. not (eqb l 0)) w)) ≡ cond b 0 1 + nonzeros w)
    [ true ↦ omega arith | false ↦ omega arith ]
