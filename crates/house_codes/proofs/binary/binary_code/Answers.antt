use Rattle.std.proofs.Common.{ap, ◌∙◌}
use Rattle.algebra.specs.Binary.{binary}
use Rattle.field.specs.declared.binary.BinaryField.{BinaryField}
use Rattle.house_codes.proofs.Making.{same_rs}
use Rattle.house_codes.proofs.binary.binary_code.Goals as goal

pub returns : goal.returns
returns c =
    let made = c.in-Ok-new.ensures in
    record { means = same_rs _ (binary c.args.m) _ _ c.args.n c.args.k (ap (λ (f : BinaryField). binary f.m) made.1 ∙ ap binary c.in-Ok.ensures.1) made.2 made.3 }
