-- The laws that a generator code needs. It sums products of letters and never divides, so the laws of a ring are enough:
-- sums and products of a commutative ring with one, and differences. No inverse is asked for, nor that products are associative.
use Rattle.std.specs.Prelude.{◌≡◌, ℕ, ◌<◌, ◌≤◌}
use Rattle.algebra.specs.Field.{Meaning}

pub record RingLaws (F : Meaning) : Type 0 where
  -- from 2 to 256 elements
  pub small : F.size ≤ 256
  pub two : 1 < F.size
  -- answers are elements
  pub sum_below : (a b : ℕ) → F.sum a b < F.size
  pub difference_below : (a b : ℕ) → F.difference a b < F.size
  pub product_below : (a b : ℕ) → F.product a b < F.size
  -- the laws of elements
  pub sum_assoc : (a b c : ℕ) → a < F.size → b < F.size → c < F.size → F.sum (F.sum a b) c ≡ F.sum a (F.sum b c)
  pub sum_comm : (a b : ℕ) → a < F.size → b < F.size → F.sum a b ≡ F.sum b a
  pub sum_zero : (a : ℕ) → a < F.size → F.sum a 0 ≡ a
  pub product_comm : (a b : ℕ) → a < F.size → b < F.size → F.product a b ≡ F.product b a
  pub product_one : (a : ℕ) → a < F.size → F.product a 1 ≡ a
  pub distributes : (a b c : ℕ) → a < F.size → b < F.size → c < F.size → F.product a (F.sum b c) ≡ F.sum (F.product a b) (F.product a c)
  pub difference_sum : (a b : ℕ) → a < F.size → b < F.size → F.sum (F.difference a b) b ≡ a
