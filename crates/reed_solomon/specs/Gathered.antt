-- The pairs of a sheet: each standing letter with the point of its place.
use Rattle.std.specs.Prelude.{ℕ, zero, suc, if◌then◌else◌, List, [], ◌∷◌, ◌++◌, map}
use Rattle.sheet.specs.Letters.{Letters, Sheet}
use Rattle.algebra.specs.Field.{Meaning as Field}
use Rattle.interpolation.specs.Fitting.{taken, kept}

-- the letters below n that stand, in rising order
unfoldable pub letters : Letters → ℕ → List ℕ
letters S zero = []
letters S (suc n) = letters S n ++ (if S n then n ∷ [] else [])

-- with the point x
abbrev pub at_point : ℕ → List ℕ → List (ℕ × ℕ)
at_point x ls = map (λ l. (x, l)) ls

-- place after place
unfoldable pub pairs_of : List ℕ → Sheet → List (ℕ × ℕ)
pairs_of [] s = []
pairs_of (x ∷ points) [] = []
pairs_of (x ∷ points) (S ∷ s) = at_point x (letters S 256) ++ pairs_of points s

-- their points, and their letters
abbrev pub points_of : List (ℕ × ℕ) → List ℕ
points_of ps = map (λ (p : ℕ × ℕ). p.0) ps

abbrev pub letters_of : List (ℕ × ℕ) → List ℕ
letters_of ps = map (λ (p : ℕ × ℕ). p.1) ps

-- what a fitting holds, its points and its values, after it was offered a pair
abbrev pub offered : Field → (limit : ℕ) → List ℕ × List ℕ → ℕ × ℕ → List ℕ × List ℕ
offered F limit held p =
    (kept (taken F limit held.0 held.1 p.0 p.1) held.0 p.0, kept (taken F limit held.0 held.1 p.0 p.1) held.1 p.1)

-- and after it was offered many
abbrev pub fed : Field → (limit : ℕ) → List ℕ × List ℕ → List (ℕ × ℕ) → List ℕ × List ℕ
fed F limit held [] = held
fed F limit held (p ∷ ps) = fed F limit (offered F limit held p) ps
