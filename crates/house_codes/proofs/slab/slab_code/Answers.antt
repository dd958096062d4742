use Rattle.std.proofs.Common.{◌≡◌, true, refl, ap, ◌∙◌}
use Rattle.std.proofs.lemmas.Bool.{both_ways}
use Rattle.concatenated.specs.Concatenation.{joins}
use Rattle.code.specs.Messages.{messages, span}
use Rattle.generator.specs.Generator.{gen_word, gen_distance}
use Rattle.reed_solomon.specs.Values as rs
use Rattle.generator.specs.Values as gen
use Rattle.house_codes.specs.House.{slab_outer, slab_inner}
use Rattle.house_codes.proofs.Making.{joins_same, same_concatenated}
use Rattle.house_codes.proofs.slab.slab_code.Goals as goal

-- the parts join: the checker computes it
joins_well : joins slab_outer slab_inner 6 ≡ true
unfolding messages span gen_word gen_distance
joins_well = refl

pub unreachable-requires : goal.unreachable-requires
unreachable-requires c = both_ways _ c.in_default.ensures.0 (joins_same _ _ slab_outer slab_inner 6 c.binary_code-outer.ensures.means c.slab_inner_code-inner.ensures.means joins_well)

pub returns : goal.returns
returns c =
    let made = c.in-Ok.ensures in
    record {
      means =
          same_concatenated _ _ slab_outer slab_inner _ 6 (ap (λ o. rs.meaning_of o) made.1 ∙ c.binary_code-outer.ensures.means)
          (ap (λ i. gen.meaning_of i) made.2 ∙ c.slab_inner_code-inner.ensures.means) made.3;
    }
