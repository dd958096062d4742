-- Operations on codes with an operand that is read, or that is zero.
use Rattle.std.proofs.Common.{◌≡◌, ℕ, ◌<◌, Bool, true, false, cond, ltb, sym, refl, ap, ◌∙◌, ap₂}
use Rattle.algebra.specs.Field.{Meaning, Laws, read}
use Rattle.algebra.proofs.FirstFound.{read_below, read_lt}
use Rattle.algebra.proofs.Ring.{mul_zero}
use Rattle.algebra.proofs.Elements.{field, decode, decode_product, decode_zero}
use Rattle.algebra.proofs.Carried.{zero_code, some}

pub read_zero : (q n : ℕ) → n ≡ 0 → read q n ≡ 0
read_zero q n e = ap (read q) e ∙ same (ltb 0 q)
  where
    same : (b : Bool) → cond {A = ℕ} b 0 0 ≡ 0
    same true = refl
    same false = refl

module _ (F : Meaning) (L : Laws F) where
  read_twice : (n : ℕ) → read F.size (read F.size n) ≡ read F.size n
  read_twice n = read_below F.size (read F.size n) (read_lt F.size n (some F L))

  product_read : (g n : ℕ) → F.product g n ≡ F.product g (read F.size n)
  product_read g n = L.product_reads g n ∙ ap (F.product (read F.size g)) (sym (read_twice n)) ∙ sym (L.product_reads g (read F.size n))

  sum_read : (a n : ℕ) → F.sum a n ≡ F.sum a (read F.size n)
  sum_read a n = L.sum_reads a n ∙ ap (F.sum (read F.size a)) (sym (read_twice n)) ∙ sym (L.sum_reads a (read F.size n))

  pub sum_first : (n b : ℕ) → F.sum n b ≡ F.sum (read F.size n) b
  sum_first n b = L.sum_reads n b ∙ ap (λ x. F.sum x (read F.size b)) (sym (read_twice n)) ∙ sym (L.sum_reads (read F.size n) b)

  -- one step of Horner's rule, with operands as they are read
  pub mixed_read : (g a b : ℕ) → read F.size (F.sum (F.product g a) b) ≡ F.sum (F.product g (read F.size a)) (read F.size b)
  mixed_read g a b = read_below F.size _ (L.sum_below _ _) ∙ sum_read (F.product g a) b ∙ ap (λ x. F.sum x (read F.size b)) (product_read g a)

  product_zero : (g : ℕ) → F.product g 0 ≡ 0
  product_zero g =
      zero_code F L (F.product g 0) (L.product_below g 0)
      (decode_product F L g 0 ∙ ap ((field F L).ring.ops.mul (decode F L g)) (decode_zero F L) ∙ mul_zero (field F L).ring (decode F L g))

  -- with nothing above
  pub mixed_zero : (g a b : ℕ) → a ≡ 0 → b < F.size → F.sum (F.product g a) b ≡ b
  mixed_zero g a b e h = ap (λ x. F.sum x b) (ap (F.product g) e ∙ product_zero g) ∙ L.sum_comm 0 b (some F L) h ∙ L.sum_zero b h

  pub mixed_none : (g a b : ℕ) → a ≡ 0 → b ≡ 0 → F.sum (F.product g a) b ≡ 0
  mixed_none g a b e f = ap (λ x. F.sum (F.product g a) x) f ∙ mixed_zero g a 0 e (some F L)

  pub sum_none : (y a b : ℕ) → a ≡ 0 → b ≡ 0 → F.sum a (F.product y b) ≡ 0
  sum_none y a b e f = ap₂ F.sum e (ap (F.product y) f ∙ product_zero y) ∙ L.sum_zero 0 (some F L)
