-- Zeros after the rows of a generator table change nothing of what the code means.
use Rattle.std.proofs.Common.{◌≡◌, ℕ, zero, suc, ◌+◌, ◌-◌, ◌*◌, not, List, [], ◌∷◌, ◌++◌, map, length, get_or, replicate, filter, refl, ap}
use mathlib.Core.Path.{fun_ext}
use Rattle.algebra.specs.Field.{Meaning as Field}
use Rattle.code.specs.Answers.{padded}
use Rattle.code.specs.Meaning.{Meaning, within}
use Rattle.code.specs.Messages.{span, messages}
use Rattle.code.specs.Score.{hits}
use Rattle.generator.specs.Generator.{sum_rows, gen_word, gen_distance, gen_meaning, fewest, nonzeros, blank}

zeros : (n i : ℕ) → ◌≡◌ {A = ℕ} (get_or (replicate n 0) i 0) 0
zeros zero i = refl
zeros (suc n) zero = refl
zeros (suc n) (suc i) = zeros n i

past : (xs : List ℕ) (n i : ℕ) → get_or (xs ++ replicate n 0) i 0 ≡ get_or xs i 0
past [] n i = zeros n i
past (x ∷ xs) n zero = refl
past (x ∷ xs) n (suc i) = past xs n i

same_word : (F : Field) (g : List ℕ) (size n : ℕ) (x : List ℕ) → gen_word F (padded size g) n x ≡ gen_word F g n x
unfolding gen_word
same_word F g size n x = ap (λ f. map f (span 0 n)) (fun_ext (λ j. ap (λ f. sum_rows F f 0 x) (fun_ext (λ i. past g (size - length g) (i * n + j)))))

-- the meaning of a generator code depends on its table by the words alone
abbrev by_words : Field → (n k : ℕ) → (List ℕ → List ℕ) → Meaning
by_words F n k w = record {
  family = F.family;
  q = F.size;
  n = n;
  p = F.size;
  k = k;
  word = w;
  score = λ s x. hits s (w x);
  nested = λ s x. hits s (w x);
  reach = λ s t. within;
  top = n;
  least = n - fewest (λ x. nonzeros (w x)) n (filter (λ x. not (blank x)) (messages F.size k)) + 1;
}

pub padding : (F : Field) (g : List ℕ) (size n k : ℕ) → gen_meaning F (padded size g) n k ≡ gen_meaning F g n k
unfolding gen_distance
padding F g size n k = ap (by_words F n k) (fun_ext (same_word F g size n))
