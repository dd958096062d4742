-- What offering pairs to a fitting leaves.
use Rattle.std.specs.Prelude.{◌≡◌, ℕ, List}
use Rattle.field.specs.declared.traits.Field.{Ghosts}
use Rattle.interpolation.specs.Pairs.{points_of, values_of}
use Rattle.interpolation.specs.declared.fitting.Gathering.{Gathering}
use Rattle.reed_solomon.specs.Gathered.{fed}

-- The fitting new is old after it was offered the pairs.
pub record Offers {X : Type 0} {G : Ghosts X} (pairs : List (ℕ × ℕ)) (old new : Gathering X G) : Type 0 where
  pub held : (points_of new.pairs, values_of new.pairs) ≡ fed (G.means old.field.now) old.plan.limit (points_of old.pairs, values_of old.pairs) pairs
  pub plan : new.plan ≡ old.plan
  pub field : new.field.now ≡ old.field.now
