-- What the counting rule says of a limit of pairs.
use Rattle.std.proofs.Common.{◌≡◌, ℕ, ◌-◌, ◌*◌, ◌<◌, ◌≤◌, true, ltb, leb, arith}
use Rattle.std.proofs.lemmas.Bool.{and_parts, leb-true, ltb-true}
use Rattle.algebra.specs.Interpolation.{monomials}
use Rattle.counting.specs.Counting.{limits, conditions, suits}
use Rattle.counting.proofs.Steps.{room_le, conditions_low}

module _ (v t N r : ℕ) (e : suits limits v t N r ≡ true) where
  pub admitted : r * t - 1 ≤ 63
  unfolding suits
  admitted = leb-true (r * t - 1) 63 (and_parts (leb (r * t - 1) 63) (ltb (conditions N r) (monomials 16 v (r * t - 1))) e).0

  pub more_monomials : conditions N r < monomials 16 v (r * t - 1)
  unfolding suits
  more_monomials = ltb-true (conditions N r) _ (and_parts (leb (r * t - 1) 63) (ltb (conditions N r) (monomials 16 v (r * t - 1))) e).1

  -- fewer pairs than the table has room for
  pub few_pairs : 1 ≤ r → N < 1024
  few_pairs low =
      let m = more_monomials in
      let a = room_le v (r * t - 1) admitted in
      let b = conditions_low N r low in
      omega arith
