-- What a list of messages holds, and in which order.
use Rattle.std.specs.Prelude.{ℕ, ◌+◌, Bool, true, false, if◌then◌else◌, ◌&&◌, ◌||◌, List, [], ◌∷◌, ◌==◌, nat_lt}
use Rattle.code.specs.Messages.{every}

-- lexicographic by letter
abbrev pub less : List ℕ → List ℕ → Bool
less [] [] = false
less [] (y ∷ ys) = true
less (x ∷ xs) [] = false
less (x ∷ xs) (y ∷ ys) = nat_lt x y || (x == y && less xs ys)

-- each is less than all after it
abbrev pub rising : List (List ℕ) → Bool
rising [] = true
rising (x ∷ L) = every (less x) L && rising L

abbrev pub same : List ℕ → List ℕ → Bool
same [] [] = true
same [] (y ∷ ys) = false
same (x ∷ xs) [] = false
same (x ∷ xs) (y ∷ ys) = x == y && same xs ys

-- how often x stands in a list
abbrev pub occurs : List ℕ → List (List ℕ) → ℕ
occurs x [] = 0
occurs x (y ∷ L) = (if same x y then 1 else 0) + occurs x L
