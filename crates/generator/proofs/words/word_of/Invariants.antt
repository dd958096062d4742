use Rattle.std.proofs.Common.{◌≡◌, ℕ, ◌<◌, length, get_or}
use Rattle.generator.specs.Generator.{letter}
use Rattle.generator.proofs.words.word_of.Given as goal

abbrev pub invariant-loop-j : goal.invariant-loop-j
invariant-loop-j g l = (k : ℕ) → k < l.j → get_or l.word k 0 ≡ letter (g.F.Field.means l.field) l.table (length l.initial.word) l.message k
