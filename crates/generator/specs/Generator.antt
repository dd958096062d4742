-- What a generator code means.
use Rattle.std.specs.Prelude.{◌≡◌, ℕ, zero, suc, ◌+◌, ◌-◌, ◌*◌, ◌^◌, ◌<◌, ◌≤◌, min, Bool, true, not, ◌&&◌, List, [], ◌∷◌, map, filter, ◌==◌, nat_eq, nat_le, slice_index, if◌then◌else◌}
use Rattle.algebra.specs.Field.{Meaning as Field}
use Rattle.code.specs.Meaning.{Meaning, within}
use Rattle.sheet.specs.Letters.{Sheet}
use Rattle.code.specs.Messages.{span, every, messages}
use Rattle.code.specs.Score.{hits}

-- the limits of a generator code: the rows and the columns of its table, and its messages
abbrev pub max_rows : ℕ
max_rows = 8

abbrev pub max_places : ℕ
max_places = 16

abbrev pub max_messages : ℕ
max_messages = 256

-- the letters that a table has room for
abbrev pub table_size : ℕ
table_size = max_rows * max_places

-- the letter in row i and column j of a table with n columns, row after row
abbrev pub entry : List ℕ → (n i j : ℕ) → ℕ
entry g n i j = slice_index g (i * n + j)

-- column j
abbrev pub column : List ℕ → (n j : ℕ) → ℕ → ℕ
column g n j i = entry g n i j

-- the sum of message letter times row letter in one column, the rows from i on
abbrev pub sum_rows : Field → (ℕ → ℕ) → ℕ → List ℕ → ℕ
sum_rows F column i [] = 0
sum_rows F column i (x ∷ xs) = F.sum (F.product x (column i)) (sum_rows F column (suc i) xs)

-- letter j of the word of x
abbrev pub letter : Field → List ℕ → (n : ℕ) → List ℕ → ℕ → ℕ
letter F g n x j = sum_rows F (column g n j) 0 x

-- the word of x: the sum of message letter times row
unfoldable pub gen_word : Field → List ℕ → ℕ → List ℕ → List ℕ
gen_word F g n x = map (λ j. letter F g n x j) (span 0 n)

-- how many letters are not zero
abbrev pub nonzeros : List ℕ → ℕ
nonzeros [] = 0
nonzeros (l ∷ w) = (if l == 0 then 0 else 1) + nonzeros w

-- every letter is zero
abbrev pub blank : List ℕ → Bool
blank x = every (λ l. nat_eq l 0) x

-- the smallest f of those listed and of b
abbrev pub fewest : (List ℕ → ℕ) → ℕ → List (List ℕ) → ℕ
fewest f b [] = b
fewest f b (x ∷ xs) = min (f x) (fewest f b xs)

-- the fewest nonzero letters in the word of a nonzero message; no word has more than n
unfoldable pub gen_distance : Field → List ℕ → (n k : ℕ) → ℕ
unfolding gen_word
gen_distance F g n k = fewest (λ x. nonzeros (gen_word F g n x)) n (filter (λ x. not (blank x)) (messages F.size k))

-- the number of places whose set holds the letter of the word of x
abbrev pub gen_score : Field → List ℕ → ℕ → Sheet → List ℕ → ℕ
gen_score F g n s x = hits s (gen_word F g n x)

-- the code of a table g with k rows and n columns over the field F; every sheet is in reach
abbrev pub gen_meaning : Field → List ℕ → (n k : ℕ) → Meaning
gen_meaning F g n k = record {
  family = F.family;
  q = F.size;
  n = n;
  p = F.size;
  k = k;
  word = gen_word F g n;
  score = gen_score F g n;
  nested = gen_score F g n;
  reach = λ s t. within;
  top = n;
  least = n - gen_distance F g n k + 1;
}

-- the letter in row i and column j of the identity
abbrev pub unit : (i j : ℕ) → ℕ
unit i j = if i == j then 1 else 0

-- what a table keeps to: the limits, letters of the field, and the identity in its first k columns
pub record Table (F : Field) (g : List ℕ) (n k : ℕ) : Type 0 where
  pub k_low : 1 ≤ k
  pub k_high : k ≤ max_rows
  pub k_n : k ≤ n
  pub n_high : n ≤ max_places
  pub few : F.size ^ k ≤ max_messages
  pub letters : (i : ℕ) → slice_index g i < F.size
  pub identity : (i j : ℕ) → i < k → j < k → entry g n i j ≡ unit i j

-- each number below n passes
abbrev pub all_below : ℕ → (ℕ → Bool) → Bool
all_below zero f = true
all_below (suc n) f = all_below n f && f n

-- the limits of n and k over a field of q elements
abbrev pub gen_shaped : (q n k : ℕ) → Bool
gen_shaped q n k = nat_le 1 k && (nat_le k max_rows && (nat_le k n && (nat_le n max_places && nat_le (q ^ k) max_messages)))

-- row i is that of the identity, in the first k columns
abbrev pub unit_row : List ℕ → (n k i : ℕ) → Bool
unit_row g n k i = all_below k (λ j. nat_eq (entry g n i j) (unit i j))

-- the first k columns are the identity
abbrev pub has_identity : List ℕ → (n k : ℕ) → Bool
has_identity g n k = all_below k (unit_row g n k)
