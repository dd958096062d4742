-- The elements of a field as a type: the codes below its size.
use Rattle.std.proofs.Common.{◌≡◌, ℕ, ◌<◌, sym, ap, ◌∙◌, arith}
use mathlib.Core.Path.{PathP, to_path_p}
use native.Mathlib.Bridge.{le_prop}
use native.Mathlib.Decide.{ℕ_discrete}
use Rattle.algebra.specs.Field.{Meaning, Laws, read}
use Rattle.algebra.proofs.FirstFound.{read_below, read_lt}
use Rattle.algebra.specs.Ring.{CommRing, Field}

-- An element: a code and its bound.
pub record Element (q : ℕ) : Type 0 where
  pub code : ℕ
  pub below : code < q

-- Elements with equal codes are equal.
pub same : {q : ℕ} (x y : Element q) → x.code ≡ y.code → x ≡ y
same {q} x y e =
    let over : PathP (λ i. e i < q) x.below y.below = to_path_p (λ i. e i < q) (le_prop _ _) in
    λ i. record { code = e i; below = over i }

module _ (F : Meaning) (L : Laws F) where
  some : 0 < F.size
  some = let h = L.two in omega arith

  pub decode : ℕ → Element F.size
  decode n = record { code = read F.size n; below = read_lt F.size n some }

  -- The codes' operations as the elements'.
  plus : Element F.size → Element F.size → Element F.size
  plus x y = record { code = F.sum x.code y.code; below = L.sum_below x.code y.code }

  minus : Element F.size → Element F.size → Element F.size
  minus x y = record { code = F.difference x.code y.code; below = L.difference_below x.code y.code }

  by : Element F.size → Element F.size → Element F.size
  by x y = record { code = F.product x.code y.code; below = L.product_below x.code y.code }

  over : Element F.size → Element F.size
  over x = record { code = F.inverse x.code; below = L.inverse_below x.code }

  nought : Element F.size
  nought = record { code = 0; below = some }

  unit : Element F.size
  unit = record { code = 1; below = L.two }

  pub ring : CommRing (Element F.size)
  unfolding plus minus by nought unit
  ring = record {
    ops = record { zero = nought; one = unit; add = plus; sub = minus; mul = by };
    add_assoc = λ a b c. same _ _ (L.sum_assoc _ _ _ a.below b.below c.below);
    add_comm = λ a b. same _ _ (L.sum_comm _ _ a.below b.below);
    add_zero = λ a. same _ _ (L.sum_zero _ a.below);
    sub_add = λ a b. same _ _ (L.difference_sum _ _ a.below b.below);
    mul_assoc = λ a b c. same _ _ (L.product_assoc _ _ _ a.below b.below c.below);
    mul_comm = λ a b. same _ _ (L.product_comm _ _ a.below b.below);
    mul_one = λ a. same _ _ (L.product_one _ a.below);
    mul_add = λ a b c. same _ _ (L.distributes _ _ _ a.below b.below c.below);
  }

  pub field : Field (Element F.size)
  unfolding ring nought unit by over
  field = record {
    ring = ring;
    inv = over;
    mul_inv = λ a n. same _ _ (L.inverse_one _ (positive a n) a.below);
    distinct = λ e. let h : ◌≡◌ {A = ℕ} 0 1 = ap (λ (x : Element F.size). x.code) e in omega arith;
    same = λ a b. elim (ℕ_discrete a.code b.code) [ yes e ↦ yes (same a b e) | no n ↦ no (λ e. n (ap (λ (x : Element F.size). x.code) e)) ];
  }
    where
      positive : (a : Element F.size) → ¬ (a ≡ nought) → 0 < a.code
      positive a n = let z : a.code ≡ 0 → ⊥ = λ e. n (same a nought e) in omega arith

  -- What a code stands for: a map from all numbers that keeps the operations, since they read their operands.
  pub decode_code : (x : Element F.size) → decode x.code ≡ x
  unfolding decode
  decode_code x = same _ x (read_below F.size x.code x.below)

  pub code_decode : (n : ℕ) → n < F.size → (decode n).code ≡ n
  unfolding decode
  code_decode n h = read_below F.size n h

  pub decode_sum : (a b : ℕ) → decode (F.sum a b) ≡ field.ring.ops.add (decode a) (decode b)
  unfolding decode ring field plus
  decode_sum a b = same _ _ (read_below F.size _ (L.sum_below a b) ∙ L.sum_reads a b)

  pub decode_product : (a b : ℕ) → decode (F.product a b) ≡ field.ring.ops.mul (decode a) (decode b)
  unfolding decode ring field by
  decode_product a b = same _ _ (read_below F.size _ (L.product_below a b) ∙ L.product_reads a b)

  pub decode_difference : (a b : ℕ) → decode (F.difference a b) ≡ field.ring.ops.sub (decode a) (decode b)
  unfolding decode ring field minus
  decode_difference a b = same _ _ (read_below F.size _ (L.difference_below a b) ∙ L.difference_reads a b)

  pub decode_inverse : (a : ℕ) → decode (F.inverse a) ≡ field.inv (decode a)
  unfolding decode field over
  decode_inverse a = same _ _ (read_below F.size _ (L.inverse_below a) ∙ L.inverse_reads a)

  pub decode_zero : decode 0 ≡ field.ring.ops.zero
  unfolding decode ring field nought
  decode_zero = same _ _ (read_below F.size 0 some)

  pub decode_one : decode 1 ≡ field.ring.ops.one
  unfolding decode ring field unit
  decode_one = same _ _ (read_below F.size 1 L.two)

  -- An operation reads its operands, so that one read beforehand gives the same.
  again : (b : ℕ) → read F.size (read F.size b) ≡ read F.size b
  again b = read_below F.size (read F.size b) (read_lt F.size b some)

  pub sum_read : (a b : ℕ) → F.sum a (read F.size b) ≡ F.sum a b
  sum_read a b = L.sum_reads a (read F.size b) ∙ ap (F.sum (read F.size a)) (again b) ∙ sym (L.sum_reads a b)

  pub difference_read : (a b : ℕ) → F.difference a (read F.size b) ≡ F.difference a b
  difference_read a b = L.difference_reads a (read F.size b) ∙ ap (F.difference (read F.size a)) (again b) ∙ sym (L.difference_reads a b)

  pub product_read : (a b : ℕ) → F.product a (read F.size b) ≡ F.product a b
  product_read a b = L.product_reads a (read F.size b) ∙ ap (F.product (read F.size a)) (again b) ∙ sym (L.product_reads a b)
