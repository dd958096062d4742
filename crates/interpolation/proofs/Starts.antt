-- Where the walk starts, and what it has at its end.
use Rattle.std.proofs.Common.{◌≡◌, ℕ, ◌+◌, ◌-◌, ◌*◌, ◌<◌, ◌≤◌, true, List, [], replicate, Option, sym, ap, ◌∙◌, subst, arith, leb-true}
use Rattle.algebra.specs.Field.{Meaning, Laws, codes}
use Rattle.algebra.specs.Curve.{DegreeBelow, Lies}
use Rattle.algebra.specs.CodeRecovery.{table, score}
use Rattle.code.specs.Messages.{is_row}
use Rattle.interpolation.specs.declared.pairs.Pair.{Pair}
use Rattle.interpolation.specs.Pairs.{points, values}
use Rattle.interpolation.specs.Size.{columns, rows}
use Rattle.interpolation.specs.declared.region.Region.{Region}
use Rattle.interpolation.specs.Steps.{Light}
use Rattle.interpolation.specs.Recovered.{recovered}
use Rattle.interpolation.specs.Walk.{chosen, extended, Covers, Descent, Held, Stored, Adds}
use Rattle.interpolation.proofs.Narrowing.{code_narrow}
use Rattle.interpolation.proofs.Orders.{extended_all}
use Rattle.interpolation.proofs.Stores.{held_none}

module _ (F : Meaning) (L : Laws F) (k t v degree high : ℕ) (ps : List Pair) (c : List ℕ) (weight : v ≡ k - 1)
    (light : DegreeBelow (codes F) columns rows v (degree + 1) (table F columns c))
    (covers : (f : List ℕ) → is_row k F.size f ≡ true → t ≤ score F (points ps) (values ps) f → Lies (codes F) columns rows (table F columns c) f)
    (past : (j : ℕ) → high ≤ j → j < rows → degree < v * j)
    (wide : degree + 1 ≤ columns) (heavy : v ≤ columns) (most : high ≤ rows) where
  abbrev region : Region
  region = record { width = degree + 1; weight = v; height = high; wide = wide; heavy = heavy; high = most }

  start_covers : Covers F t ps region [] (k - 0) c
  unfolding Covers
  start_covers g m e =
      code_narrow F L (degree + 1) high columns rows (table F columns c) (omega arith) most
      (λ i j hi hj h. light i j hi hj (omega arith))
      (λ i j hi hj h. light i j hi hj (let p = past j h hj in omega arith)) g
      (covers g (subst (λ n. is_row n F.size g ≡ true) (let q : k - 0 ≡ k = omega arith in q) m) (leb-true _ _ e))

  start_light : Light F region c
  unfolding Light
  start_light = λ i j hi hj o. light i j (omega arith) (omega arith) o

  pub start : Descent F k t ps region 0 [] c
  start = record {
    deep = omega arith;
    column = omega arith;
    weight = λ _. weight ∙ (let q : k - 1 ≡ k - 1 - 0 = omega arith in q);
    covers = λ _. start_covers;
    light = λ _. start_light;
  }

pub whole : (F : Meaning) (k t : ℕ) (ps : List Pair) (len : ℕ) (clear buf : List ℕ) (answer : Option ℕ) → clear ≡ replicate len 0
    → Adds k (chosen F t ps (extended F.size [] (k - 0))) clear 0 buf answer → Stored k (recovered F k t (points ps) (values ps)) buf answer
unfolding recovered
whole F k t ps len clear buf answer e f =
    subst (λ z. Stored k z buf answer) (ap (chosen F t ps) (ap (extended F.size []) (let q : k - 0 ≡ k = omega arith in q) ∙ extended_all F.size k))
    (f [] (subst (λ z. Held k [] z 0) (sym e) (held_none k len)))
