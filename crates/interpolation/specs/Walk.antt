-- Where the walk stands, and what it leaves in the buffer.
use Rattle.std.specs.Prelude.{◌≡◌, ℕ, ◌-◌, ◌*◌, ◌<◌, ◌≤◌, true, List, ◌++◌, [], map, length, replicate, filter, Some, None, Option, slice_index_or}
use Rattle.algebra.specs.Field.{Meaning, codes}
use Rattle.algebra.specs.Curve.{Lies}
use Rattle.algebra.specs.CodeRecovery.{table}
use Rattle.code.specs.Messages.{is_row, messages, each}
use Rattle.interpolation.specs.declared.pairs.Pair.{Pair}
use Rattle.interpolation.specs.Pairs.{points, values}
use Rattle.interpolation.specs.Size.{columns}
use Rattle.interpolation.specs.Steps.{Light}
use Rattle.interpolation.specs.Recovered.{passes}
use Rattle.interpolation.specs.declared.curve.Curve.{Curve}
use Rattle.interpolation.specs.declared.region.Region.{Region}

-- the most coefficients of a polynomial that is searched for
abbrev pub depths : ℕ
depths = 16

-- the cells of the curve at a depth
abbrev pub cells_at : List Curve → ℕ → List ℕ
cells_at curves d = (slice_index_or curves d (record { cells = [] })).cells

-- of a list, those that pass
abbrev pub chosen : Meaning → ℕ → (ps : List Pair) → List (List ℕ) → List (List ℕ)
chosen F t ps l = filter (λ f. passes F t (points ps) (values ps) f) l

-- the polynomials of n coefficients more after the first ones p
abbrev pub extended : ℕ → List ℕ → ℕ → List (List ℕ)
extended q p n = map (λ g. p ++ g) (messages q n)

-- what passes and begins with p, n coefficients before its end, goes on along the curve
unfoldable pub Covers : Meaning → ℕ → (ps : List Pair) → Region → List ℕ → ℕ → List ℕ → Type 0
Covers F t ps r p n c =
    (g : List ℕ) → is_row n F.size g ≡ true → passes F t (points ps) (values ps) (p ++ g) ≡ true → Lies (codes F) r.width r.height (table F columns c) g

-- where the walk for polynomials of k coefficients stands: the first `depth` coefficients p, and their curve c
pub record Descent (F : Meaning) (k t : ℕ) (ps : List Pair) (r : Region) (depth : ℕ) (p c : List ℕ) : Type 0 where
  pub deep : depth ≤ k
  pub column : 1 ≤ r.width
  pub weight : depth < k → r.weight ≡ k - 1 - depth
  pub covers : depth < k → Covers F t ps r p (k - depth) c
  pub light : depth < k → Light F r c

-- the bytes used of the buffer hold the messages l of k letters, and the rest is zero
pub record Held (k : ℕ) (l : List (List ℕ)) (buf : List ℕ) (used : ℕ) : Type 0 where
  pub size : length (each (λ x. x) l) ≡ k * length l
  pub count : used ≡ k * length l
  pub bytes : buf ≡ each (λ x. x) l ++ replicate (length buf - used) 0

-- what an answer says of the list l: the bytes that it uses, or that it does not fit
abbrev pub Stored : ℕ → List (List ℕ) → List ℕ → Option ℕ → Type 0
Stored k l buf (Some used) = Held k l buf used
Stored k l buf None = length buf < k * length l

-- after the list l that was held, the list new is held too, or they do not fit
abbrev pub Adds : ℕ → List (List ℕ) → List ℕ → ℕ → List ℕ → Option ℕ → Type 0
Adds k new buf used buf' answer = (l : List (List ℕ)) → Held k l buf used → Stored k (l ++ new) buf' answer
