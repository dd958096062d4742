use Rattle.std.proofs.Common.{length, arith}
use Rattle.code.proofs.Spans.{all_values}
use Rattle.generator.specs.Generator.{letter, gen_word}
use Rattle.generator.proofs.words.word_of.Goals as goal

pub returns : goal.returns
unfolding gen_word
returns g c =
    all_values (λ j. letter (g.F.Field.means c.args.field.now) c.args.table.now (length c.args.word.now) c.args.message.now j) c.loop-j.word (length c.args.word.now) c.loop-j.auto.word
    (λ k h. c.loop-j.invariant k (omega (arith, c.loop-j-test.false, c.loop-j.auto.word)))
