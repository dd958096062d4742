use Rattle.std.proofs.Common.{arith}
use Rattle.counting.specs.Counting.{limits}
use Rattle.reed_solomon.specs.Law.{points_lawful}
use Rattle.reed_solomon.proofs.laws.reed_solomon_stands.Goals as goal

pub returns : goal.returns
returns c = λ F laws n k fit ps points. points_lawful limits (omega arith) (omega arith) (omega arith) F laws n k fit ps points
