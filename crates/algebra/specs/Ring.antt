-- Commutative rings and fields over a carrier.
use Rattle.std.specs.Prelude.{◌≡◌}

-- The operations alone, without laws. Definitions take these, so that one definition serves
-- the elements of a field and the codes that a program holds.
pub record Ops (K : Type 0) : Type 0 where
  pub zero : K
  pub one : K
  pub add : K → K → K
  pub sub : K → K → K
  pub mul : K → K → K

-- A commutative ring with one.
pub record CommRing (K : Type 0) : Type 0 where
  pub ops : Ops K
  pub add_assoc : (a b c : K) → ops.add (ops.add a b) c ≡ ops.add a (ops.add b c)
  pub add_comm : (a b : K) → ops.add a b ≡ ops.add b a
  pub add_zero : (a : K) → ops.add a ops.zero ≡ a
  pub sub_add : (a b : K) → ops.add (ops.sub a b) b ≡ a
  pub mul_assoc : (a b c : K) → ops.mul (ops.mul a b) c ≡ ops.mul a (ops.mul b c)
  pub mul_comm : (a b : K) → ops.mul a b ≡ ops.mul b a
  pub mul_one : (a : K) → ops.mul a ops.one ≡ a
  pub mul_add : (a b c : K) → ops.mul a (ops.add b c) ≡ ops.add (ops.mul a b) (ops.mul a c)

-- A field whose elements can be told apart, as those of a finite field can.
pub record Field (K : Type 0) : Type 0 where
  pub ring : CommRing K
  pub inv : K → K
  pub mul_inv : (a : K) → ¬ (a ≡ ring.ops.zero) → ring.ops.mul a (inv a) ≡ ring.ops.one
  pub distinct : ¬ (ring.ops.zero ≡ ring.ops.one)
  pub same : Discrete K
