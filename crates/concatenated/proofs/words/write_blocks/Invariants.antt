use Rattle.std.proofs.Common.{◌≡◌, ◌*◌, take}
use Rattle.code.specs.Messages.{each}
use Rattle.concatenated.specs.Concatenation.{inner_word}
use Rattle.concatenated.proofs.words.write_blocks.Given as goal

-- the first b blocks hold the inner words of the first b letters
abbrev pub invariant-loop-b : goal.invariant-loop-b
invariant-loop-b g l =
    let mi = g.I.Code.means l.inner in
    take (l.b * mi.n) l.word ≡ each (inner_word mi) (take l.b l.above)
