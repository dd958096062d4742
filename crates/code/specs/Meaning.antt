-- What a code means: one value.
use Rattle.std.specs.Prelude.{ℕ, zero, suc, Bool, true, not, ◌&&◌, ◌||◌, List, map, length, filter, ◌==◌, nat_le, nat_lt}
use Rattle.sheet.specs.Letters.{Letters, Sheet}
use Rattle.code.specs.Messages.{every, messages}

-- whether a sheet is in reach, and if not, where: how many codes further down, and at which place
pub data Verdict : Type 0 where
  within : Verdict
  beyond : (level place : ℕ) → Verdict

pub record Meaning : Type 0 where
  -- the family of the field that the letters are from
  pub family : ℕ
  -- letters are below q, and a word has n of them, one a place
  pub q : ℕ
  pub n : ℕ
  -- messages are the lists of k letters below p
  pub p : ℕ
  pub k : ℕ
  pub word : List ℕ → List ℕ
  -- how far a message agrees with a sheet; the nested score asks no reach of a code further down
  pub score : Sheet → List ℕ → ℕ
  pub nested : Sheet → List ℕ → ℕ
  pub reach : Sheet → ℕ → Verdict
  -- the largest agreement, and the least at which a clean word is sure to be listed alone
  pub top : ℕ
  pub least : ℕ

-- of the letters below l, those that stand are below q
unfoldable pub below : ℕ → ℕ → Letters → Bool
below q zero s = true
below q (suc l) s = (not (s l) || nat_lt l q) && below q l s

-- a sheet of n places, with letters below q
unfoldable pub is_sheet : Meaning → Sheet → Bool
unfolding below
is_sheet m s = length s == m.n && every (below m.q 256) s

-- the messages with score at least t, in rising order
unfoldable pub listing : Meaning → Sheet → ℕ → List (List ℕ)
listing m s t = filter (λ x. nat_le t (m.score s x)) (messages m.p m.k)

-- the set with one letter, and the sheet with only a word, one letter a place
abbrev pub only : ℕ → Letters
only l = λ k. (k == l)

abbrev pub clean : List ℕ → Sheet
clean w = map only w
