use Rattle.std.proofs.Common.{◌≡◌, ℕ, suc, ◌+◌, ◌-◌, ◌*◌, ◌/◌, ◌%◌, ◌^◌, ◌<◌, ◌≤◌, sym, ap, ◌∙◌, subst, ap₂, div-one, arith}
use lib.Bits.{bit_xor}
use Rattle.algebra.specs.Binary.{times, times_x, modulus}
use Rattle.algebra.proofs.BinaryLaws.{step_below, byte_size}
use Rattle.std.proofs.lemmas.Nat.{shr-shr}
use Rattle.field.proofs.binary.BinaryField.times_reduced.Goals as goal

-- one bit more of b
next : (m g i a b r x : ℕ) → 0 < i → i ≤ m → r ≡ times m g (m - i) a (b / 2 ^ i) → x ≡ times_x m g r
    → bit_xor (b / 2 ^ (i - 1) % 2 * a) x ≡ times m g (m - (i - 1)) a (b / 2 ^ (i - 1))
next m g i a b r x pos most e h =
    let one : m - (i - 1) ≡ suc (m - i) = omega arith in
    let up : i - 1 + 1 ≡ i = omega arith in
    let half : b / 2 ^ (i - 1) / 2 ≡ b / 2 ^ i = shr-shr b (i - 1) 1 ∙ ap (λ n. b / 2 ^ n) up in
    rw one (ap (bit_xor (b / 2 ^ (i - 1) % 2 * a)) (h ∙ ap (times_x m g) (e ∙ ap (times m g (m - i) a) (sym half))))

pub times_x-requires-clause-below : goal.times_x-requires-clause-below
times_x-requires-clause-below c = subst (λ n. n < 2 ^ c.args.self.m) (sym c.loop-i.invariant) (step_below c.args.self.m c.args.self.listed _ _ _ c.requires)

pub loop-i-preserved : goal.loop-i-preserved
loop-i-preserved c =
    next c.args.self.m (modulus c.args.self.m) c.loop-i.i c.args.a c.args.b c.loop-i.r c.times_x.result
    c.loop-i-test.true c.loop-i.auto.i c.loop-i.invariant
    (c.times_x.ensures ∙ ap (λ g. times_x c.args.self.m g c.loop-i.r) c.modulus-g.ensures.value)

pub overflow_cast-result : goal.overflow_cast-result
overflow_cast-result c =
    omega (arith, c.loop-i.invariant, step_below c.args.self.m c.args.self.listed (c.args.self.m - c.loop-i.i) c.args.a (c.args.b / 2 ^ c.loop-i.i) c.requires, byte_size c.args.self.m c.args.self.listed)

pub returns : goal.returns
returns c =
    let m = c.args.self.m in
    let z : c.loop-i.i ≡ 0 = omega arith in
    c.loop-i.invariant
    ∙ ap (λ i. times m (modulus m) (m - i) c.args.a (c.args.b / 2 ^ i)) z
    ∙ ap₂ (λ n b. times m (modulus m) n c.args.a b) (let e : m - 0 ≡ m = omega arith in e) (div-one c.args.b)
