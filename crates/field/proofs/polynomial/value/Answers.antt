use Rattle.std.proofs.Common.{rules, ◌≡◌, ◌∙◌, ℕ, refl, ap, List, [], ◌∷◌, fold, reverse}
use Rattle.std.proofs.iter.runs.Made.{chains}
use Rattle.std.proofs.lemmas.Grind.{reverse_onto}
use Rattle.std.proofs.lemmas.List.Sums.{fold_push}
use Rattle.algebra.specs.Field.{Meaning}
use Rattle.algebra.proofs.Values.{horner, by_horner}
use Rattle.field.proofs.polynomial.value.Goals as goal

-- Horner's rule is a fold from the last coefficient down.
from_the_last : (F : Meaning) (x : ℕ) (cs : List ℕ) → fold (λ s c. F.sum c (F.product x s)) 0 (reverse cs) ≡ horner F x cs
from_the_last F x [] = refl
from_the_last F x (c ∷ cs) =
    ap (fold (λ s k. F.sum k (F.product x s)) 0) (reverse_onto cs c [])
    ∙ fold_push (λ s k. F.sum k (F.product x s)) 0 (reverse cs) c
    ∙ ap (λ s. F.sum c (F.product x s)) (from_the_last F x cs)

pub returns : goal.returns
returns g c =
    let F = g.F.Field.means c.args.field.now in
    let folded : c.fold.result ≡ fold (λ s k. F.sum k (F.product c.args.point s)) 0 (reverse c.args.coefficients.now) = search (rules, chains) in
    folded ∙ from_the_last F c.args.point c.args.coefficients.now
    ∙ by_horner F (g.met.F.Field.lawful c.args.field.now) c.args.coefficients.now c.args.point
