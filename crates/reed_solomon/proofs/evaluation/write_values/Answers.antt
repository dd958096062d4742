use Rattle.std.proofs.Common.{length, arith}
use Rattle.algebra.specs.Polynomial.{value}
use Rattle.code.proofs.Spans.{all_values}
use Rattle.reed_solomon.specs.ReedSolomon.{word_at}
use Rattle.reed_solomon.proofs.evaluation.write_values.Goals as goal

pub returns : goal.returns
unfolding word_at
returns g c =
    all_values (λ i. value (g.F.Field.means c.args.field.now) c.args.message.now i) c.loop-i.word (length c.args.word.now) c.loop-i.auto.word
    (λ k h. c.loop-i.invariant k (omega (arith, c.loop-i-test.false, c.loop-i.auto.word)))
