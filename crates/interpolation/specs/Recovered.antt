-- The list that is recovered from pairs.
use Rattle.std.specs.Prelude.{ℕ, Bool, List, filter, nat_le}
use Rattle.algebra.specs.Field.{Meaning}
use Rattle.algebra.specs.CodeRecovery.{score}
use Rattle.code.specs.Messages.{messages}

-- f passes through at least t of the pairs
abbrev pub passes : Meaning → ℕ → (xs ys f : List ℕ) → Bool
passes F t xs ys f = nat_le t (score F xs ys f)

-- the polynomials of k coefficients that do, each once, in rising order
unfoldable pub recovered : Meaning → (k t : ℕ) → (xs ys : List ℕ) → List (List ℕ)
recovered F k t xs ys = filter (λ f. passes F t xs ys f) (messages F.size k)
