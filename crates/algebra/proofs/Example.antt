-- The small instance, by the theorems.
use Rattle.std.proofs.Common.{◌≡◌, ℕ, zero, suc, ◌*◌, ◌<◌, [], ◌∷◌, refl, arith}
use Rattle.algebra.specs.Field.{Laws, codes}
use Rattle.algebra.specs.Prime.{prime}
use Rattle.algebra.specs.Curve.{choose, sum, times, power, term, hasse, Multiplicity, Through, DegreeBelow, row, ZeroAt, Lies}
use Rattle.algebra.specs.Interpolation.{Fitted}
use Rattle.algebra.specs.CodeRecovery.{at, Pairs, score}
use Rattle.algebra.specs.Example.{line, Example}
use Rattle.algebra.proofs.Modular.{prime_laws}
use Rattle.algebra.proofs.CodeRecovery.{code_vanishing, code_walk_meets}

-- The field of two elements.
two : Laws (prime 2)
two = prime_laws 2 tt

-- The curve y passes through the origin.
at_origin : Multiplicity (codes (prime 2)) 1 2 1 0 0 line
unfolding hasse term sum times power choose
at_origin zero zero h = refl
at_origin zero (suc w) h = absurd (omega arith)
at_origin (suc u) w h = absurd (omega arith)

meets : Through (codes (prime 2)) 1 2 1 1 (at (0 ∷ [])) (at (0 ∷ [])) line
meets zero l = at_origin
meets (suc t) l = at_origin

degree : DegreeBelow (codes (prime 2)) 1 2 0 1 line
degree i j hi hj o = absurd (let z : 0 * j ≡ 0 = omega arith in omega arith)

fits : Fitted (codes (prime 2)) 1 2 0 0 1 1 (at (0 ∷ [])) (at (0 ∷ [])) line
fits = record {
  some = (0, 1, omega arith, omega arith, λ e. let z : ◌≡◌ {A = ℕ} 1 0 = e in omega arith);
  within = degree;
  through = meets;
}

origin : Pairs (prime 2) (0 ∷ []) (0 ∷ [])
origin = record {
  same = refl;
  low_x = λ t l. one t;
  low_y = λ t l. one t;
  apart = λ s t o l _ _. omega arith;
}
  where
    one : (t : ℕ) → at (0 ∷ []) t < 2
    one zero = omega arith
    one (suc t) = omega arith

-- 0 passes through the pair, so that it lies on the curve.
zero_lies : Lies (codes (prime 2)) 1 2 line (0 ∷ [])
unfolding score
zero_lies = code_vanishing (prime 2) two 1 1 1 2 0 line (0 ∷ []) (0 ∷ []) (0 ∷ []) refl degree origin meets (omega arith)

one_off : ¬ Lies (codes (prime 2)) 1 2 line (1 ∷ [])
unfolding ZeroAt row
one_off z = let e : ◌≡◌ {A = ℕ} 1 0 = (λ i. z i 0) in omega arith

pub example : Example
unfolding hasse term sum times power choose
example = record {
  lawful = two;
  fitted = fits;
  lies = zero_lies;
  met = code_walk_meets (prime 2) two 1 2 line (0 ∷ []) degree zero_lies;
  off = one_off;
  hasse_second = refl;
  hasse_first = refl;
}
