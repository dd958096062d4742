-- The smallest value of f on a list, and of b: bounds from both sides.
use Rattle.std.proofs.Common.{ap, inl, inr, ⊎_elim, arith}
use Rattle.std.specs.Prelude.{ℕ, ◌≤◌, List, [], ◌∷◌, refl}
use Rattle.code.proofs.Members.{In}
use Rattle.generator.specs.Generator.{fewest}

-- no more than at any element
pub fewest_le : (f : List ℕ → ℕ) (b : ℕ) (x : List ℕ) (xs : List (List ℕ)) → In x xs → fewest f b xs ≤ f x
fewest_le f b x [] h = absurd h
fewest_le f b x (y ∷ xs) h = ⊎_elim (λ e. let z = ap f e in omega arith) (λ r. let z = fewest_le f b x xs r in omega arith) h

-- nor more than b
pub fewest_base : (f : List ℕ → ℕ) (b : ℕ) (xs : List (List ℕ)) → fewest f b xs ≤ b
fewest_base f b [] = omega arith
fewest_base f b (y ∷ xs) = let z = fewest_base f b xs in omega arith

-- at least one, where every value is
pub fewest_low : (f : List ℕ → ℕ) (b : ℕ) (xs : List (List ℕ)) → 1 ≤ b → ((x : List ℕ) → In x xs → 1 ≤ f x) → 1 ≤ fewest f b xs
fewest_low f b [] hb h = hb
fewest_low f b (y ∷ xs) hb h = let a = h y (inl refl) in let z = fewest_low f b xs hb (λ x r. h x (inr r)) in omega arith
