use Rattle.std.proofs.Common.{◌≡◌, ◌==◌, ℕ, zero, suc, ◌+◌, List, [], ◌∷◌, cond, length, sym, refl, ap, ◌∙◌, add_assoc, count_by, arith, rules}
use Rattle.std.proofs.iter.runs.Made.{chains}
use Rattle.std.proofs.lemmas.List.Sums.{sum_by-cons}
use Rattle.algebra.specs.Field.{Meaning}
use Rattle.algebra.specs.Polynomial.{value}
use Rattle.algebra.specs.CodeRecovery.{at, passed, score}
use Rattle.interpolation.specs.declared.pairs.Pair.{Pair}
use Rattle.interpolation.specs.Pairs.{points, values}
use Rattle.interpolation.proofs.walk.Search.score.Goals as goal

module _ (F : Meaning) (f : List ℕ) where
  -- the first pair counted first
  passed_front : (x y : ℕ) (xs ys : List ℕ) (n : ℕ) → passed F f (x ∷ xs) (y ∷ ys) (suc n) ≡ cond (value F f x == y) 1 0 + passed F f xs ys n
  passed_front x y xs ys zero = let z : 0 + cond (value F f x == y) 1 0 ≡ cond (value F f x == y) 1 0 + 0 = omega arith in z
  passed_front x y xs ys (suc n) = ap (λ k. k + cond (value F f (at xs n) == at ys n) 1 0) (passed_front x y xs ys n) ∙ add_assoc (cond (value F f x == y) 1 0) (passed F f xs ys n) (cond (value F f (at xs n) == at ys n) 1 0)

  count_score : (ps : List Pair) → count_by (λ p. (value F f p.point == p.value)) ps ≡ score F (points ps) (values ps) f
  unfolding score
  count_score [] = refl
  count_score (p ∷ ps) =
      sum_by-cons (λ p. cond (value F f p.point == p.value) 1 0) p ps ∙ ap (λ n. cond (value F f p.point == p.value) 1 0 + n) (count_score ps)
      ∙ sym (passed_front p.point p.value (points ps) (values ps) (length (points ps)))

pub returns : goal.returns
returns g c =
    let F = g.F.Field.means c.args.self.now.field.now in
    let n : c.count.result ≡ count_by (λ p. (value F c.args.message.now p.point == p.value)) c.args.self.now.pairs.now = search (rules, chains) in
    n ∙ count_score F c.args.message.now c.args.self.now.pairs.now
