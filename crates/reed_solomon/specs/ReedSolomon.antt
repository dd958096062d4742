-- What a Reed-Solomon code means.
use Rattle.std.specs.Prelude.{◌≡◌, ℕ, ◌-◌, ◌<◌, ◌≤◌, Bool, if◌then◌else◌, ◌&&◌, List, map, length, nat_le}
use Rattle.algebra.specs.Lists.{Each, Distinct}
use Rattle.algebra.specs.Field.{Meaning as Field}
use Rattle.algebra.specs.Polynomial.{value}
use Rattle.sheet.specs.Letters.{Sheet, weight}
use Rattle.counting.specs.Counting.{Limits, in_reach}
use Rattle.code.specs.Messages.{span}
use Rattle.code.specs.Meaning.{Meaning, within, beyond}
use Rattle.code.specs.Score.{hits}
use Rattle.reed_solomon.specs.Least.{least_reach}

-- the values at the points of the polynomial whose coefficients are the message, the constant first
unfoldable pub word_at : Field → List ℕ → List ℕ → List ℕ
word_at F points x = map (λ a. value F x a) points

abbrev pub score_at : Field → List ℕ → Sheet → List ℕ → ℕ
score_at F points s x = hits s (word_at F points x)

-- the code at a list of n points
abbrev pub rs_at : Limits → Field → (n : ℕ) → List ℕ → (k : ℕ) → Meaning
rs_at L F n points k = record {
  family = F.family;
  q = F.size;
  n = n;
  p = F.size;
  k = k;
  word = word_at F points;
  score = score_at F points;
  nested = score_at F points;
  reach = λ s t. if in_reach L (k - 1) t (weight s) then within else beyond 0 0;
  top = n;
  least = least_reach L n k;
}

-- at the elements with codes 0 to n - 1
abbrev pub rs_meaning : Limits → Field → (n k : ℕ) → Meaning
rs_meaning L F n k = rs_at L F n (span 0 n) k

-- n different points of the field
pub record Points (F : Field) (n : ℕ) (points : List ℕ) : Type 0 where
  pub count : length points ≡ n
  pub below : Each (λ x. x < F.size) points
  pub apart : Distinct points

-- the most message letters, and places
abbrev pub most_letters : ℕ
most_letters = 16

abbrev pub most_places : ℕ
most_places = 64

-- the limits of n and k
pub record Bounds (n k : ℕ) : Type 0 where
  pub k_low : 1 ≤ k
  pub k_high : k ≤ most_letters
  pub k_n : k ≤ n
  pub n_high : n ≤ most_places

-- and, at codes 0 to n - 1, no more places than elements
pub record Shape (F : Field) (n k : ℕ) : Type 0 where
  pub bounds : Bounds n k
  pub n_q : n ≤ F.size

-- the same as a test, over a field of q elements
abbrev pub shaped : (q n k : ℕ) → Bool
shaped q n k = nat_le 1 k && (nat_le k most_letters && (nat_le k n && (nat_le n most_places && nat_le n q)))
