use Rattle.std.proofs.Common.{get_or, ap}
use Rattle.hearings.specs.Lines.{field}
use Rattle.hearings.proofs.Wrote.{wrote_as, rest_less, rest_as, rest_none}
use Rattle.hearings.proofs.Letters.{letters_next, letters_none}
use Rattle.hearings.proofs.writing.Text.push_letters.Goals as goal

pub loop-i-preserved : goal.loop-i-preserved
loop-i-preserved c =
    rest_less (rest_as (letters_next c.loop-i.i c.args.letters.now c.loop-i-test.true) c.loop-i.invariant)
    (wrote_as (ap (λ w. field w (get_or c.args.letters.now c.loop-i.i 0)) c.gap_before.ensures) c.push_field.ensures)

pub returns : goal.returns
returns c = rest_none (rest_as (letters_none c.loop-i.i c.args.letters.now c.loop-i-test.false) c.loop-i.invariant)
