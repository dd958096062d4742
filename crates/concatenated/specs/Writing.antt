-- What writing one block leaves.
use Rattle.std.specs.Prelude.{ℕ, ◌*◌, List, ◌++◌, take, drop}

-- a word whose block b of n letters is ys, and which else is as it was
abbrev pub with_block : ℕ → ℕ → List ℕ → List ℕ → List ℕ
with_block n b ys word = take (b * n) word ++ (ys ++ drop n (drop (b * n) word))
