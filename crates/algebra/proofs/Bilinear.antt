-- The product of polynomials is linear in each factor.
use Rattle.std.proofs.Common.{◌≡◌, ℕ, zero, suc, ◌-◌, ◌*◌, ◌/◌, ◌%◌, ◌^◌, refl, ap, ◌∙◌}
use lib.Bits.{bit_xor, xor_shr}
use Rattle.algebra.specs.Binary.{times_x, times}
use Rattle.algebra.proofs.Xor.{shuffle, low_mul, times_low, double}

module _ (m g : ℕ) where
  pub x_linear : (u v : ℕ) → times_x m g (bit_xor u v) ≡ bit_xor (times_x m g u) (times_x m g v)
  x_linear u v =
      ap (λ z. bit_xor z (bit_xor u v / 2 ^ (m - 1) % 2 * g)) (double u v)
      ∙ ap (λ z. bit_xor (bit_xor (u * 2) (v * 2)) (z % 2 * g)) (xor_shr u v (m - 1))
      ∙ ap (bit_xor (bit_xor (u * 2) (v * 2))) (low_mul (u / 2 ^ (m - 1)) (v / 2 ^ (m - 1)) g)
      ∙ shuffle (u * 2) (v * 2) (u / 2 ^ (m - 1) % 2 * g) (v / 2 ^ (m - 1) % 2 * g)

  pub left_linear : (k a c b : ℕ) → times m g k (bit_xor a c) b ≡ bit_xor (times m g k a b) (times m g k c b)
  left_linear zero a c b = refl
  left_linear (suc k) a c b =
      ap (λ z. bit_xor z (times_x m g (times m g k (bit_xor a c) (b / 2)))) (times_low b a c)
      ∙ ap (λ z. bit_xor (bit_xor (b % 2 * a) (b % 2 * c)) (times_x m g z)) (left_linear k a c (b / 2))
      ∙ ap (bit_xor (bit_xor (b % 2 * a) (b % 2 * c))) (x_linear (times m g k a (b / 2)) (times m g k c (b / 2)))
      ∙ shuffle (b % 2 * a) (b % 2 * c) (times_x m g (times m g k a (b / 2))) (times_x m g (times m g k c (b / 2)))

  pub right_linear : (k a b c : ℕ) → times m g k a (bit_xor b c) ≡ bit_xor (times m g k a b) (times m g k a c)
  right_linear zero a b c = refl
  right_linear (suc k) a b c =
      ap (λ z. bit_xor z (times_x m g (times m g k a (bit_xor b c / 2)))) (low_mul b c a)
      ∙ ap (λ z. bit_xor (bit_xor (b % 2 * a) (c % 2 * a)) (times_x m g (times m g k a z))) (xor_shr b c 1)
      ∙ ap (λ z. bit_xor (bit_xor (b % 2 * a) (c % 2 * a)) (times_x m g z)) (right_linear k a (b / 2) (c / 2))
      ∙ ap (bit_xor (bit_xor (b % 2 * a) (c % 2 * a))) (x_linear (times m g k a (b / 2)) (times m g k a (c / 2)))
      ∙ shuffle (b % 2 * a) (c % 2 * a) (times_x m g (times m g k a (b / 2))) (times_x m g (times m g k a (c / 2)))
