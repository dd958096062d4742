-- How rows of weights go on.
use Rattle.std.proofs.Common.{◌≡◌, ℕ, zero, suc, ◌+◌, ◌<◌, ◌≤◌, List, ◌++◌, length, take, drop, refl, ◌∙◌, ap₂, add-one, arith, length-append, length-drop, length-take}
use Rattle.std.proofs.lemmas.List.{get_or_append_left, get_or-take}
use Rattle.algebra.specs.Ring.{Ops}
use Rattle.algebra.specs.Field.{Meaning, codes}
use Rattle.algebra.specs.Curve.{weight, sum, dot}
use Rattle.algebra.specs.Interpolation.{up}
use Rattle.algebra.specs.CodeRecovery.{at}
use Rattle.interpolation.specs.Weighed.{Weighed, raised}

module _ (F : Meaning) (a : ℕ) where
  pub power_none : 1 ≡ weight (codes F) a 0 0
  unfolding weight
  power_none = refl

  pub power_more : (i : ℕ) → F.product a (weight (codes F) a 0 i) ≡ weight (codes F) a 0 (i + 1)
  unfolding weight
  power_more i = rw add-one refl

  pub raised_none : (l : List ℕ) → 0 ≡ raised F a l 0
  unfolding raised
  raised_none l = refl

  pub raised_more : (l : List ℕ) (i : ℕ) → F.sum (F.product a (raised F a l i)) (at l i) ≡ raised F a l (i + 1)
  unfolding raised
  raised_more l i = rw add-one refl

  -- A row of weights is raised to one of the next order.
  pub raised_weighed : (u n : ℕ) (l : List ℕ) → Weighed F a u n l → (i : ℕ) → i < n → raised F a l i ≡ weight (codes F) a (suc u) i
  unfolding raised weight
  raised_weighed u n l h zero lt = refl
  raised_weighed u n l h (suc i) lt = ap₂ (λ x y. F.sum (F.product a x) y) (raised_weighed u n l h i (omega arith)) (h i (omega arith))

  -- A row whose first n weights are raised in place.
  pub front_raised : (u n : ℕ) (l front : List ℕ) → n ≤ length l → length front ≡ length (take n l)
      → (Weighed F a u (length (take n l)) (take n l) → Weighed F a (suc u) (length (take n l)) front) → Weighed F a u n l → Weighed F a (u + 1) n (front ++ drop n l)
  front_raised u n l front fits size raises weighed i h =
      let long = length-take n l in
      rw add-one (get_or_append_left front _ 0 i (omega arith) ∙ raises (λ j k. get_or-take n l j 0 (omega arith) ∙ weighed j (omega arith)) i (omega arith))

-- What is written over the front of a list.
pub front_length : (n : ℕ) (l front : List ℕ) → length front ≡ length (take n l) → length (front ++ drop n l) ≡ length l
front_length n l front size = let a = length-append front (drop n l) in let b = length-take n l in let c = length-drop n l in omega arith

module _ {K : Type 0} (O : Ops K) where
  pub dot_none : (h f : ℕ → K) → O.zero ≡ dot O 0 h f
  unfolding dot sum
  dot_none h f = refl

  pub dot_more : (n : ℕ) (h f : ℕ → K) → O.add (dot O n h f) (O.mul (h n) (f n)) ≡ dot O (n + 1) h f
  unfolding dot sum
  dot_more n h f = rw add-one refl

  pub up_none : (f : ℕ → K) → O.zero ≡ up O f 0
  unfolding up
  up_none f = refl

  pub up_more : (f : ℕ → K) (i : ℕ) → f i ≡ up O f (i + 1)
  unfolding up
  up_more f i = rw add-one refl
