use Rattle.std.proofs.Common.{ap, ◌∙◌}
use Rattle.algebra.specs.Prime.{prime}
use Rattle.field.specs.declared.prime.PrimeField.{PrimeField}
use Rattle.house_codes.specs.House.{slab_rows}
use Rattle.house_codes.proofs.Making.{same_gen}
use Rattle.house_codes.proofs.slab.slab_inner_code.Goals as goal

pub returns : goal.returns
returns c =
    let made = c.in-Ok-new.ensures in
    record { means = same_gen _ (prime 2) _ slab_rows _ _ 8 4 (ap (λ (f : PrimeField). prime f.p) made.1 ∙ ap prime c.in-Ok.ensures.1) made.2 made.3 made.4 }
