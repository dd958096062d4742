-- What is tested of each m and modulus: products of single bits, and a power of each element that is its inverse.
use Rattle.std.proofs.Common.{ℕ, zero, suc, ◌-◌, ◌^◌, Bool, ◌&&◌, ◌||◌, T, eqb, ltb, leb}
use Rattle.algebra.specs.Listed.{exponents}
use Rattle.algebra.specs.Binary.{times, times_x, modulus}
use Rattle.algebra.proofs.Tests.{all_below, all_of}

-- The product of the squares of s, of the squares of those, and so on, n of them.
abbrev pub powers : (m g n s made : ℕ) → ℕ
powers m g zero s made = made
powers m g (suc n) s made = powers m g n (times m g m s s) (times m g m made (times m g m s s))

-- The element a to the power 2^m - 2, which is its inverse.
abbrev pub power : (m g a : ℕ) → ℕ
power m g a = powers m g (m - 1) a 1

-- The size of the field.
abbrev pub bounds_test : ℕ → Bool
bounds_test m = leb 1 m && leb m 8

-- Products of single bits are below the size.
abbrev pub below_test : ℕ → ℕ → Bool
below_test m g = all_below (λ i. ltb (times_x m g (2 ^ i)) (2 ^ m)) m

-- One is neutral for single bits.
abbrev pub one_test : ℕ → ℕ → Bool
one_test m g = all_below (λ i. eqb (times m g m (2 ^ i) 1) (2 ^ i)) m

-- Products of two single bits commute.
abbrev pub comm_test : ℕ → ℕ → Bool
comm_test m g = all_below (λ i. all_below (λ j. eqb (times m g m (2 ^ i) (2 ^ j)) (times m g m (2 ^ j) (2 ^ i))) m) m

-- Products of three single bits associate.
abbrev pub assoc_test : ℕ → ℕ → Bool
assoc_test m g =
    all_below (λ i. all_below (λ j. all_below (λ k.
    eqb (times m g m (times m g m (2 ^ i) (2 ^ j)) (2 ^ k)) (times m g m (2 ^ i) (times m g m (2 ^ j) (2 ^ k)))) m) m) m

-- Every element but zero has its inverse.
abbrev pub inverse_test : ℕ → ℕ → Bool
inverse_test m g = all_below (λ a. eqb a 0 || eqb (times m g m a (power m g a)) 1) (2 ^ m)

pub bounds_pass : T (all_of bounds_test exponents)
bounds_pass = tt

pub below_pass : T (all_of (λ m. below_test m (modulus m)) exponents)
below_pass = tt

pub one_pass : T (all_of (λ m. one_test m (modulus m)) exponents)
one_pass = tt

pub comm_pass : T (all_of (λ m. comm_test m (modulus m)) exponents)
comm_pass = tt

pub assoc_pass : T (all_of (λ m. assoc_test m (modulus m)) exponents)
assoc_pass = tt

pub inverse_pass : T (all_of (λ m. inverse_test m (modulus m)) exponents)
inverse_pass = tt
