-- Rows of the weights C(i, u) a^(i - u) that a derivative of order u at a gives to the powers of x.
use Rattle.std.specs.Prelude.{◌≡◌, ℕ, zero, suc, ◌<◌, List}
use Rattle.algebra.specs.Field.{Meaning, codes}
use Rattle.algebra.specs.Curve.{weight}
use Rattle.algebra.specs.CodeRecovery.{at}

-- The row has the weights of order u at a, of the powers below n.
abbrev pub Weighed : (F : Meaning) (a u n : ℕ) → List ℕ → Type 0
Weighed F a u n l = (i : ℕ) → i < n → at l i ≡ weight (codes F) a u i

-- What Pascal's rule makes of a row: the weights of the next order.
unfoldable pub raised : (F : Meaning) (a : ℕ) (l : List ℕ) (i : ℕ) → ℕ
raised F a l zero = 0
raised F a l (suc i) = F.sum (F.product a (raised F a l i)) (at l i)
