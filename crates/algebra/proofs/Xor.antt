-- Exclusive or: sums of single bits.
use Rattle.std.proofs.Common.{◌≡◌, ℕ, zero, suc, ◌+◌, ◌*◌, ◌/◌, ◌%◌, ◌^◌, ◌<◌, ◌≤◌, ◌⊎◌, sym, refl, ap, ◌∙◌, subst, inl, inr, ⊎_elim, add-zero, mod-lt, one-mul, div-add-mod', zero-mul, arith, pow_pos}
use lib.Bits.{bit_xor, xor_zero_r, xor_self, xor_comm, xor_assoc, xor_block, xor_shifted, xor_mod}

pub xor_left : (a b c : ℕ) → bit_xor a (bit_xor b c) ≡ bit_xor b (bit_xor a c)
xor_left a b c = sym (xor_assoc a b c) ∙ ap (λ x. bit_xor x c) (xor_comm a b) ∙ xor_assoc b a c

pub shuffle : (a b c d : ℕ) → bit_xor (bit_xor a b) (bit_xor c d) ≡ bit_xor (bit_xor a c) (bit_xor b d)
shuffle a b c d = xor_assoc a b (bit_xor c d) ∙ ap (bit_xor a) (xor_left b c d) ∙ sym (xor_assoc a c (bit_xor b d))

pub bit : (x : ℕ) → (x % 2 ≡ 0) ⊎ (x % 2 ≡ 1)
bit x = elim (low (x % 2) (mod-lt x (let h : 0 < 2 = omega arith in h))) [ inl e ↦ inl e | inr e ↦ inr e ]
  where
    low : (n : ℕ) → n < 2 → (n ≡ 0) ⊎ (n ≡ 1)
    low zero h = inl refl
    low (suc n) h = inr (omega arith)

-- A bit times a number.
bits_mul : (g x y : ℕ) → (x ≡ 0) ⊎ (x ≡ 1) → (y ≡ 0) ⊎ (y ≡ 1) → bit_xor x y * g ≡ bit_xor (x * g) (y * g)
bits_mul g x y (inl e) k = rw e (sym (ap (λ z. bit_xor z (y * g)) (zero-mul g)))
bits_mul g x y (inr e) (inl k) = rw (e, k) (sym (ap (bit_xor (1 * g)) (zero-mul g) ∙ xor_zero_r (1 * g)))
bits_mul g x y (inr e) (inr k) = rw (e, k) (zero-mul g ∙ sym (xor_self (1 * g)))

-- Bit 0 of a sum times g.
pub low_mul : (u v g : ℕ) → bit_xor u v % 2 * g ≡ bit_xor (u % 2 * g) (v % 2 * g)
low_mul u v g = ap (λ n. n * g) (xor_mod u v 1) ∙ bits_mul g (u % 2) (v % 2) (bit u) (bit v)

bit_times : (x a b : ℕ) → (x ≡ 0) ⊎ (x ≡ 1) → x * bit_xor a b ≡ bit_xor (x * a) (x * b)
bit_times x a b (inl e) = rw e (zero-mul (bit_xor a b) ∙ sym (ap (λ z. bit_xor z (0 * b)) (zero-mul a) ∙ zero-mul b))
bit_times x a b (inr e) = rw e (one-mul (bit_xor a b) ∙ sym (ap (λ z. bit_xor z (1 * b)) (one-mul a) ∙ ap (bit_xor a) (one-mul b)))

pub times_low : (u a b : ℕ) → u % 2 * bit_xor a b ≡ bit_xor (u % 2 * a) (u % 2 * b)
times_low u a b = bit_times (u % 2) a b (bit u)

pub double : (u v : ℕ) → bit_xor u v * 2 ≡ bit_xor (u * 2) (v * 2)
double u v =
    let h : 0 < 2 ^ 1 = omega arith in
    sym (ap (λ x. bit_xor x (v * 2)) (sym (add-zero (u * 2))) ∙ ap (bit_xor (u * 2 + 0)) (sym (add-zero (v * 2))) ∙ xor_block 1 u v 0 0 h h ∙ add-zero (bit_xor u v * 2))

-- Every number below 2^m is a sum of single bits.
pub by_bits : (P : ℕ → Type 0) (m : ℕ) → P 0 → ((i : ℕ) → i < m → P (2 ^ i)) → ((a b : ℕ) → P a → P b → P (bit_xor a b)) → (a : ℕ) → a < 2 ^ m → P a
by_bits P zero z s j a h = let e : a ≡ 0 = omega arith in rw e z
by_bits P (suc m) z s j a h =
    let low : a % 2 ^ m < 2 ^ m = mod-lt a (pow_pos m) in
    let rest : P (a % 2 ^ m) = by_bits P m z (λ i k. s i (omega arith)) j (a % 2 ^ m) low in
    top (a / 2 ^ m) (div-add-mod' a (2 ^ m)) low rest
  where
    top : (q : ℕ) → q * 2 ^ m + a % 2 ^ m ≡ a → a % 2 ^ m < 2 ^ m → P (a % 2 ^ m) → P a
    top zero e low rest = let k : a % 2 ^ m ≡ a = omega (arith, zero-mul (2 ^ m)) in subst P k rest
    top (suc zero) e low rest =
        subst P (xor_shifted 1 m (a % 2 ^ m) low ∙ e) (j (1 * 2 ^ m) (a % 2 ^ m) (subst P (sym (one-mul (2 ^ m))) (s m (omega arith))) rest)
    top (suc (suc q)) e low rest = absurd (omega (arith, h))

pub bit_le : (x a : ℕ) → x % 2 * a ≤ a
bit_le x a = ⊎_elim (λ e. rw e (omega (arith, zero-mul a))) (λ e. rw e (omega (arith, one-mul a))) (bit x)
