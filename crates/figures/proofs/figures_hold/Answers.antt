use Rattle.std.proofs.Common.{refl}
use Rattle.sheet.specs.Letters.{tally, size}
use Rattle.algebra.specs.Interpolation.{total, monomials}
use Rattle.counting.specs.Counting.{suits}
use Rattle.code.specs.Messages.{messages, span}
use Rattle.code.specs.Meaning.{listing}
use Rattle.generator.specs.Generator.{gen_word, gen_distance}
use Rattle.reed_solomon.specs.Least.{least_reach}
use Rattle.reed_solomon.specs.ReedSolomon.{word_at}
use Rattle.figures.proofs.figures_hold.Goals as goal

-- each figure is computed
pub returns : goal.returns
unfolding listing messages span gen_word gen_distance word_at least_reach suits monomials total tally size
returns c = record {
  product_over_16 = refl;
  product_over_256 = refl;
  inverse_over_11 = refl;
  slab_list = refl;
  slab_least = refl;
  five_at_three = refl;
  five_at_four = refl;
  five_at_two = refl;
  slab_outer_least = refl;
  header_least = refl;
  brine_inner_least = refl;
  brine_outer_least = refl;
}
