-- The listing rule.
use Rattle.std.specs.Prelude.{◌≡◌, ℕ, ◌<◌, ◌≤◌, true, List, [], ◌∷◌, nat_le}
use Rattle.code.specs.Meaning.{Meaning, Verdict, within, beyond, is_sheet, listing, clean}
use Rattle.sheet.specs.Letters.{Sheet}
use Rattle.code.specs.Messages.{is_row}

-- a refusal's place is a place of the code
abbrev pub Inside : ℕ → Verdict → Type 0
Inside n within = Unit {0}
Inside n (beyond level place) = place < n

-- the most places of a code, and letters of a message; both may grow
abbrev pub places_limit : ℕ
places_limit = 240

abbrev pub dimension_limit : ℕ
dimension_limit = 16

pub record Sizes (m : Meaning) : Type 0 where
  pub q_low : 1 ≤ m.q
  pub q_high : m.q ≤ 256
  pub n_low : 1 ≤ m.n
  pub n_high : m.n ≤ places_limit
  pub p_low : 1 ≤ m.p
  pub p_high : m.p ≤ 256
  pub k_low : 1 ≤ m.k
  pub k_high : m.k ≤ dimension_limit
  pub least_low : 1 ≤ m.least
  pub least_top : m.least ≤ m.top

pub record ListingRule (m : Meaning) : Type 0 where
  pub sizes : Sizes m
  -- a word has n letters below q
  pub word_row : (x : List ℕ) → is_row m.k m.p x ≡ true → is_row m.n m.q (m.word x) ≡ true
  -- a refusal's place lies in the code
  pub reach_inside : (s : Sheet) (t : ℕ) → Inside m.n (m.reach s t)
  -- in reach, just the messages with score at least t have nested score at least t
  pub nested_same : (s : Sheet) (t : ℕ) → is_sheet m s ≡ true → 1 ≤ t → t ≤ m.top → m.reach s t ≡ within
      → (x : List ℕ) → is_row m.k m.p x ≡ true → nat_le t (m.nested s x) ≡ nat_le t (m.score s x)
  -- the clean rule: on the sheet with only the word of x, each t from least to top is in reach and lists x alone
  pub clean_reach : (x : List ℕ) → is_row m.k m.p x ≡ true → (t : ℕ) → m.least ≤ t → t ≤ m.top → m.reach (clean (m.word x)) t ≡ within
  pub clean_alone : (x : List ℕ) → is_row m.k m.p x ≡ true → (t : ℕ) → m.least ≤ t → t ≤ m.top → listing m (clean (m.word x)) t ≡ x ∷ []
