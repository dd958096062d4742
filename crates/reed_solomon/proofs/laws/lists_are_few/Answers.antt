use Rattle.reed_solomon.proofs.Few.{few_listed}
use Rattle.reed_solomon.proofs.laws.lists_are_few.Goals as goal

pub returns : goal.returns
returns c = few_listed
