use Rattle.std.proofs.Common.{◌≡◌, ◌-◌, ◌/◌, ◌^◌}
use Rattle.algebra.specs.Binary.{times, modulus}
use Rattle.field.proofs.binary.BinaryField.times_reduced.Given as goal

abbrev pub invariant-loop-i : goal.invariant-loop-i
invariant-loop-i l = l.r ≡ times l.self.m (modulus l.self.m) (l.self.m - l.i) l.a (l.b / 2 ^ l.i)
