-- The fields of 2^m elements: one proof over m and the modulus, from the tests.
use Rattle.std.proofs.Common.{◌≡◌, ℕ, zero, suc, ◌-◌, ◌*◌, ◌/◌, ◌%◌, ◌^◌, ◌<◌, ◌≤◌, ◌||◌, T, eqb, ltb, leb, sym, refl, ap, ◌∙◌, subst, ⊎_elim, one-mul, zero-mul, arith, eqb→eq, ltb→lt, leb→le, pow_pos, pow_mono}
use lib.Bits.{bit_xor, xor_lt, xor_zero_r, xor_self, xor_comm, xor_assoc}
use Rattle.algebra.specs.Field.{Laws}
use Rattle.algebra.specs.Listed.{exponents, is_exponent}
use Rattle.algebra.specs.Binary.{times, times_x, modulus, binary}
use Rattle.algebra.proofs.Codes.{Codes, in_field}
use Rattle.algebra.proofs.Tests.{and_left, and_right, or_cases, all_below, below_at, of_at}
use Rattle.algebra.proofs.Xor.{by_bits, bit}
use Rattle.algebra.proofs.Bilinear.{x_linear, left_linear, right_linear}
use Rattle.algebra.proofs.BinarySound.{powers, power, bounds_test, below_test, one_test, comm_test, assoc_test, inverse_test, bounds_pass, below_pass, one_pass, comm_pass, assoc_pass, inverse_pass}

module _ (m g : ℕ) (bounds : T (bounds_test m)) (below : T (below_test m g)) (one : T (one_test m g)) (comm : T (comm_test m g)) (assoc : T (assoc_test m g)) (inverse : T (inverse_test m g)) where
  mul : ℕ → ℕ → ℕ
  mul = times m g m

  pos : 0 < 2 ^ m
  pos = pow_pos m

  -- Zero on either side, from linearity.
  left_zero : (b : ℕ) → times m g m 0 b ≡ 0
  left_zero b = left_linear m g m 0 0 b ∙ xor_self (times m g m 0 b)

  right_zero : (a : ℕ) → times m g m a 0 ≡ 0
  right_zero a = right_linear m g m a 0 0 ∙ xor_self (times m g m a 0)

  x_zero : times_x m g 0 < 2 ^ m
  x_zero = subst (λ z. z < 2 ^ m) (sym (x_linear m g 0 0 ∙ xor_self (times_x m g 0))) pos

  bit_below : (b a : ℕ) → a < 2 ^ m → b % 2 * a < 2 ^ m
  bit_below b a ha = ⊎_elim (λ e. rw e (rw zero-mul pos)) (λ e. rw e (rw one-mul ha)) (bit b)

  x_below : (u : ℕ) → u < 2 ^ m → times_x m g u < 2 ^ m
  x_below u hu =
      by_bits (λ x. times_x m g x < 2 ^ m) m x_zero
      (λ i hi. ltb→lt _ _ (below_at (λ i. ltb (times_x m g (2 ^ i)) (2 ^ m)) m below i hi))
      (λ x y hx hy. subst (λ z. z < 2 ^ m) (sym (x_linear m g x y)) (xor_lt m _ _ hx hy))
      u hu

  some_below : (k a b : ℕ) → a < 2 ^ m → times m g k a b < 2 ^ m
  some_below zero a b ha = pos
  some_below (suc k) a b ha = xor_lt m _ _ (bit_below b a ha) (x_below _ (some_below k a (b / 2) ha))

  mul_below : (a b : ℕ) → a < 2 ^ m → b < 2 ^ m → times m g m a b < 2 ^ m
  mul_below a b ha _ = some_below m a b ha

  -- Two maps that keep sums and agree at single bits agree.
  agree : (f h : ℕ → ℕ) → f 0 ≡ h 0 → ((i : ℕ) → i < m → f (2 ^ i) ≡ h (2 ^ i))
      → ((x y : ℕ) → f (bit_xor x y) ≡ bit_xor (f x) (f y)) → ((x y : ℕ) → h (bit_xor x y) ≡ bit_xor (h x) (h y))
      → (a : ℕ) → a < 2 ^ m → f a ≡ h a
  agree f h z s lf lh =
      by_bits (λ x. f x ≡ h x) m z s
      (λ x y ex ey. lf x y ∙ ap (λ u. bit_xor u (f y)) ex ∙ ap (bit_xor (h x)) ey ∙ sym (lh x y))

  mul_one : (a : ℕ) → a < 2 ^ m → times m g m a 1 ≡ a
  mul_one = agree (λ a. times m g m a 1) (λ a. a) (left_zero 1)
      (λ i hi. eqb→eq _ _ (below_at (λ i. eqb (times m g m (2 ^ i) 1) (2 ^ i)) m one i hi))
      (λ x y. left_linear m g m x y 1) (λ x y. refl)

  mul_comm : (a b : ℕ) → a < 2 ^ m → b < 2 ^ m → times m g m a b ≡ times m g m b a
  mul_comm a b ha hb =
      agree (λ x. times m g m x b) (λ x. times m g m b x) (left_zero b ∙ sym (right_zero b))
      (λ i hi. agree (λ y. times m g m (2 ^ i) y) (λ y. times m g m y (2 ^ i)) (right_zero (2 ^ i) ∙ sym (left_zero (2 ^ i)))
      (λ j hj. eqb→eq _ _ (below_at (λ j. eqb (times m g m (2 ^ i) (2 ^ j)) (times m g m (2 ^ j) (2 ^ i))) m
      (below_at (λ i. all_below (λ j. eqb (times m g m (2 ^ i) (2 ^ j)) (times m g m (2 ^ j) (2 ^ i))) m) m comm i hi) j hj))
      (right_linear m g m (2 ^ i)) (λ x y. left_linear m g m x y (2 ^ i)) b hb)
      (λ x y. left_linear m g m x y b) (right_linear m g m b)
      a ha

  bits_assoc : (i j k : ℕ) → i < m → j < m → k < m → times m g m (times m g m (2 ^ i) (2 ^ j)) (2 ^ k) ≡ times m g m (2 ^ i) (times m g m (2 ^ j) (2 ^ k))
  bits_assoc i j k hi hj hk =
      eqb→eq _ _
      (below_at (λ k. eqb (times m g m (times m g m (2 ^ i) (2 ^ j)) (2 ^ k)) (times m g m (2 ^ i) (times m g m (2 ^ j) (2 ^ k)))) m
      (below_at (λ j. all_below (λ k. eqb (times m g m (times m g m (2 ^ i) (2 ^ j)) (2 ^ k)) (times m g m (2 ^ i) (times m g m (2 ^ j) (2 ^ k)))) m) m
      (below_at (λ i. all_below (λ j. all_below (λ k. eqb (times m g m (times m g m (2 ^ i) (2 ^ j)) (2 ^ k)) (times m g m (2 ^ i) (times m g m (2 ^ j) (2 ^ k)))) m) m) m assoc i hi) j hj) k hk)

  -- Three factors: a sum in the first, the second or the third.
  first_sum : (b c x y : ℕ) → times m g m (times m g m (bit_xor x y) b) c ≡ bit_xor (times m g m (times m g m x b) c) (times m g m (times m g m y b) c)
  first_sum b c x y = ap (λ z. times m g m z c) (left_linear m g m x y b) ∙ left_linear m g m (times m g m x b) (times m g m y b) c

  second_sum_l : (a c x y : ℕ) → times m g m (times m g m a (bit_xor x y)) c ≡ bit_xor (times m g m (times m g m a x) c) (times m g m (times m g m a y) c)
  second_sum_l a c x y = ap (λ z. times m g m z c) (right_linear m g m a x y) ∙ left_linear m g m (times m g m a x) (times m g m a y) c

  second_sum_r : (a c x y : ℕ) → times m g m a (times m g m (bit_xor x y) c) ≡ bit_xor (times m g m a (times m g m x c)) (times m g m a (times m g m y c))
  second_sum_r a c x y = ap (times m g m a) (left_linear m g m x y c) ∙ right_linear m g m a (times m g m x c) (times m g m y c)

  third_sum : (a b x y : ℕ) → times m g m a (times m g m b (bit_xor x y)) ≡ bit_xor (times m g m a (times m g m b x)) (times m g m a (times m g m b y))
  third_sum a b x y = ap (times m g m a) (right_linear m g m b x y) ∙ right_linear m g m a (times m g m b x) (times m g m b y)

  mul_assoc : (a b c : ℕ) → a < 2 ^ m → b < 2 ^ m → c < 2 ^ m → times m g m (times m g m a b) c ≡ times m g m a (times m g m b c)
  mul_assoc a b c ha hb hc =
      agree (λ x. times m g m (times m g m x b) c) (λ x. times m g m x (times m g m b c))
      (ap (λ z. times m g m z c) (left_zero b) ∙ left_zero c ∙ sym (left_zero (times m g m b c)))
      (λ i hi. agree (λ y. times m g m (times m g m (2 ^ i) y) c) (λ y. times m g m (2 ^ i) (times m g m y c))
      (ap (λ z. times m g m z c) (right_zero (2 ^ i)) ∙ left_zero c ∙ sym (ap (times m g m (2 ^ i)) (left_zero c) ∙ right_zero (2 ^ i)))
      (λ j hj. agree (λ z. times m g m (times m g m (2 ^ i) (2 ^ j)) z) (λ z. times m g m (2 ^ i) (times m g m (2 ^ j) z))
      (right_zero (times m g m (2 ^ i) (2 ^ j)) ∙ sym (ap (times m g m (2 ^ i)) (right_zero (2 ^ j)) ∙ right_zero (2 ^ i)))
      (λ k hk. bits_assoc i j k hi hj hk)
      (right_linear m g m (times m g m (2 ^ i) (2 ^ j))) (third_sum (2 ^ i) (2 ^ j)) c hc)
      (second_sum_l (2 ^ i) c) (second_sum_r (2 ^ i) c) b hb)
      (first_sum b c) (λ x y. left_linear m g m x y (times m g m b c))
      a ha

  one_lt : 1 < 2 ^ m
  one_lt = let h : 1 ≤ m = leb→le 1 m (and_left (leb 1 m) (leb m 8) bounds) in let p : 2 ^ 1 ≤ 2 ^ m = pow_mono h in omega arith

  powers_below : (n s made : ℕ) → s < 2 ^ m → made < 2 ^ m → powers m g n s made < 2 ^ m
  powers_below zero s made hs hm = hm
  powers_below (suc n) s made hs hm = powers_below n _ _ (mul_below s s hs hs) (mul_below made _ hm (mul_below s s hs hs))

  inverse_of : (a : ℕ) → 0 < a → a < 2 ^ m → (b : ℕ) × (b < 2 ^ m) × (times m g m a b ≡ 1)
  inverse_of a z h = (
    power m g a,
    powers_below (m - 1) a 1 h one_lt,
    ⊎_elim (λ e. absurd (let q = eqb→eq a 0 e in omega arith)) (eqb→eq (times m g m a (power m g a)) 1)
        (or_cases (eqb a 0) (eqb (times m g m a (power m g a)) 1) (below_at (λ a. eqb a 0 || eqb (times m g m a (power m g a)) 1) (2 ^ m) inverse a h)),
  )

  codes : Codes (2 ^ m) bit_xor bit_xor (times m g m)
  codes = record {
    small = (let h : m ≤ 8 = leb→le m 8 (and_right (leb 1 m) (leb m 8) bounds) in let p : 2 ^ m ≤ 2 ^ 8 = pow_mono h in p);
    two = one_lt;
    s_below = λ a b. xor_lt m a b;
    d_below = λ a b. xor_lt m a b;
    p_below = mul_below;
    s_assoc = λ a b c _ _ _. xor_assoc a b c;
    s_comm = λ a b _ _. xor_comm a b;
    s_zero = λ a _. xor_zero_r a;
    p_assoc = mul_assoc;
    p_comm = mul_comm;
    p_one = mul_one;
    p_zero = λ b _. left_zero b;
    dist = λ a b c _ _ _. right_linear m g m a b c;
    d_s = λ a b _ _. xor_assoc a b b ∙ ap (bit_xor a) (xor_self b) ∙ xor_zero_r a;
    witness = inverse_of;
  }

pub binary_laws : (m : ℕ) → T (is_exponent m) → Laws (binary m)
binary_laws m ok =
    in_field (2 ^ m) bit_xor bit_xor (times m (modulus m) m)
    (codes m (modulus m) (of_at bounds_test exponents bounds_pass m ok)
    (of_at (λ m. below_test m (modulus m)) exponents below_pass m ok)
    (of_at (λ m. one_test m (modulus m)) exponents one_pass m ok)
    (of_at (λ m. comm_test m (modulus m)) exponents comm_pass m ok)
    (of_at (λ m. assoc_test m (modulus m)) exponents assoc_pass m ok)
    (of_at (λ m. inverse_test m (modulus m)) exponents inverse_pass m ok))
    2

pub step_below : (m : ℕ) → T (is_exponent m) → (k a b : ℕ) → a < 2 ^ m → times m (modulus m) k a b < 2 ^ m
step_below m ok =
    some_below m (modulus m) (of_at bounds_test exponents bounds_pass m ok)
    (of_at (λ m. below_test m (modulus m)) exponents below_pass m ok)
    (of_at (λ m. one_test m (modulus m)) exponents one_pass m ok)
    (of_at (λ m. comm_test m (modulus m)) exponents comm_pass m ok)
    (of_at (λ m. assoc_test m (modulus m)) exponents assoc_pass m ok)
    (of_at (λ m. inverse_test m (modulus m)) exponents inverse_pass m ok)

pub byte_size : (m : ℕ) → T (is_exponent m) → 2 ^ m ≤ 2 ^ 8
byte_size m ok = (binary_laws m ok).small
