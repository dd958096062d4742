-- What a code means, from what its parts mean.
use Rattle.std.proofs.Common.{◌≡◌, ℕ, true, List, ap, ◌∙◌}
use Rattle.algebra.specs.Field.{Meaning as Field}
use Rattle.code.specs.Meaning.{Meaning}
use Rattle.counting.specs.Counting.{limits}
use Rattle.reed_solomon.specs.ReedSolomon.{rs_meaning}
use Rattle.generator.specs.Generator.{gen_meaning, table_size}
use Rattle.code.specs.Answers.{padded}
use Rattle.concatenated.specs.Concatenation.{concatenated, joins}
use Rattle.house_codes.proofs.Padding.{padding}

-- what the parts of a code mean, it means
pub same_rs : (F G : Field) (n k m l : ℕ) → F ≡ G → n ≡ m → k ≡ l → rs_meaning limits F n k ≡ rs_meaning limits G m l
same_rs F G n k m l f e h = ap (λ z. rs_meaning limits z n k) f ∙ ap (λ z. rs_meaning limits G z k) e ∙ ap (λ z. rs_meaning limits G m z) h

pub same_gen : (F G : Field) (g rows : List ℕ) (n k m l : ℕ) → F ≡ G → g ≡ padded table_size rows → n ≡ m → k ≡ l → gen_meaning F g n k ≡ gen_meaning G rows m l
same_gen F G g rows n k m l f t e h =
    ap (λ z. gen_meaning z g n k) f ∙ ap (λ z. gen_meaning G z n k) t ∙ padding G rows table_size n k ∙ ap (λ z. gen_meaning G rows z k) e ∙ ap (λ z. gen_meaning G rows m z) h

pub same_concatenated : (mo mi po pi : Meaning) (a b : ℕ) → mo ≡ po → mi ≡ pi → a ≡ b → concatenated mo mi a ≡ concatenated po pi b
same_concatenated mo mi po pi a b o i e = ap (λ z. concatenated z mi a) o ∙ ap (λ z. concatenated po z a) i ∙ ap (concatenated po pi) e

pub joins_same : (mo mi po pi : Meaning) (a : ℕ) → mo ≡ po → mi ≡ pi → joins po pi a ≡ true → joins mo mi a ≡ true
joins_same mo mi po pi a o i h = ap (λ z. joins z mi a) o ∙ ap (λ z. joins po z a) i ∙ h
