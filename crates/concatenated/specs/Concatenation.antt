-- What a concatenated code means, by what its outer and its inner code mean.
use Rattle.std.specs.Prelude.{◌≡◌, ℕ, zero, suc, ◌+◌, ◌*◌, ◌^◌, ◌≤◌, min, Bool, ◌&&◌, List, ◌==◌, nat_le}
use Rattle.sheet.specs.Letters.{Sheet}
use Rattle.code.specs.Messages.{each, digits}
use Rattle.code.specs.Meaning.{Meaning, Verdict, within, beyond}
use Rattle.concatenated.specs.Lifted.{block, lifted, lifted_nested}

-- the most places that a concatenated code may have
abbrev pub places_limit : ℕ
places_limit = 240

-- an inner refusal in the block that begins at place `at`: one level further down; else what comes after
abbrev pub or_block : ℕ → Verdict → Verdict → Verdict
or_block at within after = after
or_block at (beyond level place) after = beyond (min 255 (level + 1)) (at + place)

-- an outer refusal: its place is that of a block of n places
abbrev pub scaled_by : ℕ → Verdict → Verdict
scaled_by n within = within
scaled_by n (beyond level place) = beyond level (place * n)

-- the blocks from b on, c of them, and then what comes after
unfoldable pub reach_from : Meaning → ℕ → Sheet → ℕ → ℕ → Verdict → Verdict
reach_from mi a s b zero after = after
reach_from mi a s b (suc c) after = or_block (b * mi.n) (mi.reach (block mi.n s b) a) (reach_from mi a s (suc b) c after)

-- the inner word of the message with number v
abbrev pub inner_word : Meaning → ℕ → List ℕ
inner_word mi v = mi.word (digits mi.p mi.k v)

-- mo is the outer code's meaning, mi the inner code's, and a the inner agreement
abbrev pub concatenated : Meaning → Meaning → ℕ → Meaning
concatenated mo mi a = record {
  family = mi.family;
  q = mi.q;
  n = mo.n * mi.n;
  p = mo.p;
  k = mo.k;
  word = λ x. each (inner_word mi) (mo.word x);
  score = λ s x. mo.score (lifted mo.n mi a s) x;
  nested = λ s x. mo.nested (lifted_nested mo.n mi a s) x;
  reach = λ s t. reach_from mi a s 0 mo.n (scaled_by mi.n (mo.reach (lifted mo.n mi a s) t));
  top = mo.top;
  least = mo.least;
}

-- what a making tests
abbrev pub joins : Meaning → Meaning → ℕ → Bool
joins mo mi a = mo.q == mi.p ^ mi.k && (nat_le mi.least a && (nat_le a mi.top && nat_le (mo.n * mi.n) places_limit))

-- the same, as facts
pub record Joined (mo mi : Meaning) (a : ℕ) : Type 0 where
  -- the outer letters are the numbers of the inner messages
  pub letters_meet : mo.q ≡ mi.p ^ mi.k
  pub a_low : mi.least ≤ a
  pub a_high : a ≤ mi.top
  pub places_fit : mo.n * mi.n ≤ places_limit
