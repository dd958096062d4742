-- The whole numbers modulo p: the laws of a ring at every p, and of a field at the listed ones.
use Rattle.std.proofs.Common.{◌≡◌, ℕ, ◌+◌, ◌-◌, ◌*◌, ◌/◌, ◌%◌, ◌^◌, ◌<◌, Bool, ◌&&◌, ◌||◌, T, eqb, ltb, leb, sym, ap, ◌∙◌, ⊎_elim, add-zero, add_assoc, mod-lt, mod-eq_of_lt, mul_assoc, mul_comm, add-mul, add_comm, zero-mul, mul-one, mul-add, arith, eqb→eq, ltb→lt, leb→le}
use native.Mathlib.Nat.{zero-mod, mod-add-mod, add-mod-mod, add-mod_right, add-mul-mod_self_left, mod-add-div}
use Rattle.algebra.specs.Listed.{prime_sizes, is_prime_size}
use Rattle.algebra.specs.Field.{Laws}
use Rattle.algebra.specs.Prime.{prime}
use Rattle.algebra.proofs.Codes.{Codes, in_field}
use Rattle.algebra.proofs.Tests.{and_left, and_right, or_cases, all_below, below_at, all_of, of_at}

mul_mod_l : (a b p : ℕ) → (a % p * b) % p ≡ (a * b) % p
mul_mod_l a b p =
    sym (add-mul-mod_self_left (a % p * b) p (a / p * b))
    ∙ ap (λ n. n % p) (ap (λ n. a % p * b + n) (sym (mul_assoc p (a / p) b)) ∙ sym (add-mul (a % p) (p * (a / p)) b) ∙ ap (λ n. n * b) (mod-add-div a p))

mul_mod_r : (a b p : ℕ) → (a * (b % p)) % p ≡ (a * b) % p
mul_mod_r a b p = ap (λ n. n % p) (mul_comm a (b % p)) ∙ mul_mod_l b a p ∙ ap (λ n. n % p) (mul_comm b a)

-- What is tested at each p: its bounds, and a power of each element that is its inverse.
abbrev sound : ℕ → Bool
sound p = leb p 256 && (ltb 1 p && all_below (λ a. eqb a 0 || eqb (a * (a ^ (p - 2) % p) % p) 1) p)

all_sound : T (all_of sound prime_sizes)
all_sound = tt

module _ (p : ℕ) (t : T (sound p)) where
  two : 1 < p
  two = ltb→lt 1 p (and_left (ltb 1 p) (all_below (λ a. eqb a 0 || eqb (a * (a ^ (p - 2) % p) % p) 1) p) (and_right (leb p 256) _ t))

  pos : 0 < p
  pos = let h = two in omega arith

  powers : T (all_below (λ a. eqb a 0 || eqb (a * (a ^ (p - 2) % p) % p) 1) p)
  powers = and_right (ltb 1 p) (all_below (λ a. eqb a 0 || eqb (a * (a ^ (p - 2) % p) % p) 1) p) (and_right (leb p 256) _ t)

  inverse_of : (a : ℕ) → 0 < a → a < p → (b : ℕ) × (b < p) × (a * b % p ≡ 1)
  inverse_of a z h = (
    a ^ (p - 2) % p,
    mod-lt (a ^ (p - 2)) pos,
    ⊎_elim (λ e. absurd (let q = eqb→eq a 0 e in omega arith)) (eqb→eq (a * (a ^ (p - 2) % p) % p) 1)
        (or_cases (eqb a 0) (eqb (a * (a ^ (p - 2) % p) % p) 1) (below_at (λ a. eqb a 0 || eqb (a * (a ^ (p - 2) % p) % p) 1) p powers a h)),
  )

  codes : Codes p (λ a b. (a + b) % p) (λ a b. (a + (p - b)) % p) (λ a b. (a * b) % p)
  codes = record {
    small = leb→le p 256 (and_left (leb p 256) _ t);
    two = two;
    s_below = λ a b _ _. mod-lt (a + b) pos;
    d_below = λ a b _ _. mod-lt (a + (p - b)) pos;
    p_below = λ a b _ _. mod-lt (a * b) pos;
    s_assoc = λ a b c _ _ _. mod-add-mod (a + b) p c ∙ ap (λ n. n % p) (add_assoc a b c) ∙ sym (add-mod-mod a (b + c) p);
    s_comm = λ a b _ _. ap (λ n. n % p) (add_comm a b);
    s_zero = λ a h. ap (λ n. n % p) (add-zero a) ∙ mod-eq_of_lt h;
    p_assoc = λ a b c _ _ _. mul_mod_l (a * b) c p ∙ ap (λ n. n % p) (mul_assoc a b c) ∙ sym (mul_mod_r a (b * c) p);
    p_comm = λ a b _ _. ap (λ n. n % p) (mul_comm a b);
    p_one = λ a h. ap (λ n. n % p) (mul-one a) ∙ mod-eq_of_lt h;
    p_zero = λ b _. ap (λ n. n % p) (zero-mul b) ∙ zero-mod p;
    dist = λ a b c _ _ _.
        mul_mod_r a (b + c) p ∙ ap (λ n. n % p) (mul-add a b c)
        ∙ sym (mod-add-mod (a * b) p (a * c % p) ∙ add-mod-mod (a * b) (a * c) p);
    d_s = λ a b ha hb.
        mod-add-mod (a + (p - b)) p b
        ∙ ap (λ n. n % p) (let e : a + (p - b) + b ≡ a + p = omega arith in e)
        ∙ add-mod_right a p ∙ mod-eq_of_lt ha;
    witness = inverse_of;
  }

pub prime_laws : (p : ℕ) → T (is_prime_size p) → Laws (prime p)
prime_laws p ok = in_field p (λ a b. (a + b) % p) (λ a b. (a + (p - b)) % p) (λ a b. (a * b) % p) (codes p (of_at sound prime_sizes all_sound p ok)) 1
