use Rattle.concatenated.specs.Law.{concatenated_lawful}
use Rattle.concatenated.proofs.Parts.{out_by_parts, reach_by_parts}
use Rattle.concatenated.proofs.theorems.concatenations_stand.Goals as goal

pub returns : goal.returns
returns c = record { lawful = concatenated_lawful; verdict = out_by_parts; refused = reach_by_parts }
