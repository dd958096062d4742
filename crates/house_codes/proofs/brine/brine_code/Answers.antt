use Rattle.std.proofs.Common.{◌≡◌, true, refl, ap, ◌∙◌}
use Rattle.std.proofs.lemmas.Bool.{both_ways}
use Rattle.concatenated.specs.Concatenation.{joins}
use Rattle.algebra.specs.Interpolation.{total, monomials}
use Rattle.counting.specs.Counting.{suits}
use Rattle.reed_solomon.specs.Least.{least_reach}
use Rattle.reed_solomon.specs.Values as rs
use Rattle.house_codes.specs.House.{brine_outer, brine_inner}
use Rattle.house_codes.proofs.Making.{joins_same, same_concatenated}
use Rattle.house_codes.proofs.brine.brine_code.Goals as goal

-- the parts join: the checker computes it
joins_well : joins brine_outer brine_inner 4 ≡ true
unfolding least_reach suits monomials total
joins_well = refl

pub unreachable-requires : goal.unreachable-requires
unreachable-requires c = both_ways _ c.in_default.ensures.0 (joins_same _ _ brine_outer brine_inner 4 c.binary_code-outer.ensures.means c.binary_code-inner.ensures.means joins_well)

pub returns : goal.returns
returns c =
    let made = c.in-Ok.ensures in
    record {
      means =
          same_concatenated _ _ brine_outer brine_inner _ 4 (ap (λ o. rs.meaning_of o) made.1 ∙ c.binary_code-outer.ensures.means)
          (ap (λ i. rs.meaning_of i) made.2 ∙ c.binary_code-inner.ensures.means) made.3;
    }
