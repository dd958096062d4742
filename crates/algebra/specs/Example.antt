-- A small instance over the field of two elements.
use Rattle.std.specs.Prelude.{◌≡◌, ℕ, zero, suc, [], ◌∷◌}
use Rattle.algebra.specs.Field.{Laws, codes}
use Rattle.algebra.specs.Prime.{prime}
use Rattle.algebra.specs.Curve.{Table, hasse, Lies}
use Rattle.algebra.specs.Interpolation.{Fitted}
use Rattle.algebra.specs.Walk.{Met}
use Rattle.algebra.specs.CodeRecovery.{at}

-- The curve y, which has one column and two rows.
abbrev pub line : Table ℕ
line i zero = 0
line i (suc j) = 1

-- The curve x^2, which has three columns and one row.
abbrev pub square : Table ℕ
square zero j = 0
square (suc zero) j = 0
square (suc (suc i)) j = 1

-- What is so over two elements.
pub record Example : Type 0 where
  pub lawful : Laws (prime 2)
  -- The curve y is fitted to the pair (0, 0) with multiplicity 1,
  pub fitted : Fitted (codes (prime 2)) 1 2 0 0 1 1 (at (0 ∷ [])) (at (0 ∷ [])) line
  -- so that the polynomial 0 lies on it and is met, and 1 does not lie on it.
  pub lies : Lies (codes (prime 2)) 1 2 line (0 ∷ [])
  pub met : Met (codes (prime 2)) 1 2 (0 ∷ []) line
  pub off : ¬ Lies (codes (prime 2)) 1 2 line (1 ∷ [])
  -- The second Hasse derivative of x^2 at 1 is one, where the plain derivative is 2 = 0; the first is zero.
  pub hasse_second : hasse (codes (prime 2)) 3 1 1 0 2 0 square ≡ 1
  pub hasse_first : hasse (codes (prime 2)) 3 1 1 0 1 0 square ≡ 0
