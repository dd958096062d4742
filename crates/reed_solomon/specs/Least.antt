-- The least agreement of a Reed-Solomon code.
use Rattle.std.specs.Prelude.{ℕ, zero, suc, ◌-◌, Bool, true, ◌&&◌, Some, None, Option}
use Rattle.counting.specs.Counting.{Limits, smallest, in_reach}

-- each number from b on, of those below b + left, passes
abbrev pub all_from : (ℕ → Bool) → (b left : ℕ) → Bool
all_from test b zero = true
all_from test b (suc left) = test b && all_from test (suc b) left

abbrev pub or_zero : Option ℕ → ℕ
or_zero None = 0
or_zero (Some t) = t

-- the smallest t from k to n such that load n is in reach at t and at each agreement above it to n
unfoldable pub least_reach : Limits → (n k : ℕ) → ℕ
least_reach L n k = or_zero (smallest (λ t. all_from (λ u. in_reach L (k - 1) u n) t (suc n - t)) k (suc n - k))
