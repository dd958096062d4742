use Rattle.std.proofs.Common.{drop}
use Rattle.hearings.specs.Lines.{letters_from}
use Rattle.hearings.proofs.Wrote.{Rest}
use Rattle.hearings.proofs.writing.Text.push_letters.Given as goal

abbrev pub invariant-loop-i : goal.invariant-loop-i
invariant-loop-i l = Rest l.self (letters_from l.i (drop l.i l.letters)) l.fn.self (letters_from 0 l.letters)
