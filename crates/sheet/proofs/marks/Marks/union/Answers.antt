use Rattle.std.proofs.Common.{rules}
use Rattle.sheet.proofs.Bit.{united}
use Rattle.sheet.proofs.marks.Marks.union.Goals as goal

pub returns : goal.returns
returns c = united c.args.self.words c.args.other.words (search rules) (search rules)
