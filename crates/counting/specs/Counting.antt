-- The counting rule, by which a load is in reach.
use Rattle.std.specs.Prelude.{ℕ, zero, suc, ◌+◌, ◌-◌, ◌*◌, ◌/◌, Bool, if◌then◌else◌, ◌&&◌, is_some, Some, None, Option, nat_le, nat_lt}
use Rattle.algebra.specs.Interpolation.{monomials}

-- the bounds of the method, which may grow
pub record Limits : Type 0 where
  -- multiplicities are from 1 to this
  pub multiplicity : ℕ
  -- the highest power of y
  pub power : ℕ
  -- the highest weighted degree
  pub degree : ℕ

abbrev pub limits : Limits
limits = record { multiplicity = 4; power = 15; degree = 63 }

-- the conditions of multiplicity r at N pairs
abbrev pub conditions : (N r : ℕ) → ℕ
conditions N r = N * r * (r + 1) / 2

-- multiplicity r is admitted at agreement t, and there are more monomials than conditions for N pairs
unfoldable pub suits : Limits → (v t N r : ℕ) → Bool
suits L v t N r = nat_le (r * t - 1) L.degree && nat_lt (conditions N r) (monomials (suc L.power) v (r * t - 1))

-- the smallest number from b on, of those below b + left, that passes
abbrev pub smallest : (ℕ → Bool) → (b left : ℕ) → Option ℕ
smallest test b zero = None
smallest test b (suc left) = if test b then Some b else smallest test (suc b) left

-- the smallest multiplicity by which a load N is in reach at t
abbrev pub by_counting : Limits → (v t N : ℕ) → Option ℕ
by_counting L v t N = smallest (suits L v t N) 1 L.multiplicity

-- a load N is in reach at t
abbrev pub in_reach : Limits → (v t N : ℕ) → Bool
in_reach L v t N = is_some (by_counting L v t N)
