-- Messages: all lists of k letters below p, in rising order, and their numbers.
use Rattle.std.specs.Prelude.{ℕ, zero, suc, ◌+◌, ◌*◌, ◌/◌, ◌%◌, ◌^◌, Bool, if◌then◌else◌, ◌&&◌, List, [], ◌∷◌, ◌++◌, map, length, take, drop, Some, None, Option, ◌==◌, nat_lt}
use Rattle.std.specs.List.{list_all}

-- each element passes
abbrev pub every : {X : Type 0} → (X → Bool) → List X → Bool
every f xs = list_all f xs

-- a list of n letters below q
abbrev pub is_row : ℕ → ℕ → List ℕ → Bool
is_row n q w = length w == n && every (λ l. nat_lt l q) w

-- the letters from a on, i of them
unfoldable pub span : ℕ → ℕ → List ℕ
span a zero = []
span a (suc i) = a ∷ span (suc a) i

-- the lists that f gives, one after another
abbrev pub each : {X Y : Type 0} → (X → List Y) → List X → List Y
each f [] = []
each f (x ∷ xs) = f x ++ each f xs

-- all lists of k letters below p: by the first letter, and then by the rest
unfoldable pub messages : ℕ → ℕ → List (List ℕ)
messages p zero = [] ∷ []
messages p (suc k) = each (λ a. map (λ m. a ∷ m) (messages p k)) (span 0 p)

-- the number of a message: its letters read in base p, the first highest
abbrev pub number_from : ℕ → ℕ → List ℕ → ℕ
number_from p a [] = a
number_from p a (x ∷ xs) = number_from p (a * p + x) xs

abbrev pub number : ℕ → List ℕ → ℕ
number p x = number_from p 0 x

-- a number, where it fits 64 bits
abbrev pub if_fits : ℕ → Option ℕ
if_fits v = if nat_lt v (2 ^ 64) then Some v else None

-- the message with a given number: k letters in base p, the first highest
unfoldable pub digits : ℕ → ℕ → ℕ → List ℕ
digits p zero v = []
digits p (suc k) v = digits p k (v / p) ++ (v % p) ∷ []

-- the first n rows of k letters that lie one after another
abbrev pub rows : (k n : ℕ) → List ℕ → List (List ℕ)
rows k zero bs = []
rows k (suc n) bs = take k bs ∷ rows k n (drop k bs)
