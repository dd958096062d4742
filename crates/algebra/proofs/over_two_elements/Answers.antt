use Rattle.algebra.proofs.Example.{example}
use Rattle.algebra.proofs.over_two_elements.Goals as goal

pub returns : goal.returns
returns c = example
