-- Blocks of a sheet, and the sheet that an outer code is handed.
use Rattle.std.specs.Prelude.{ℕ, ◌*◌, ◌||◌, List, [], ◌∷◌, map, take, drop, filter, ◌==◌, nat_le}
use Rattle.sheet.specs.Letters.{Letters, Sheet, none}
use Rattle.code.specs.Messages.{span, messages, number}
use Rattle.code.specs.Meaning.{Meaning, Verdict, within, beyond, listing}

-- block b: the run of n places that begins at b * n
abbrev pub block : {X : Type 0} → ℕ → List X → ℕ → List X
block n s b = take n (drop (b * n) s)

-- the numbers of the messages of a list
abbrev pub numbers : ℕ → List (List ℕ) → Letters
numbers p [] = none
numbers p (x ∷ xs) = λ v. (v == number p x) || numbers p xs v

-- the same where the block is in reach; else none
abbrev pub if_within : Verdict → ℕ → List (List ℕ) → Letters
if_within within p L = numbers p L
if_within (beyond level place) p L = none

-- what one block gives: the numbers of the messages that the inner code lists on it at a
abbrev pub lift : Meaning → ℕ → Sheet → Letters
lift mi a B = if_within (mi.reach B a) mi.p (listing mi B a)

-- the lifted sheet: at each outer place what its block gives
unfoldable pub lifted : ℕ → Meaning → ℕ → Sheet → Sheet
lifted total mi a s = map (λ b. lift mi a (block mi.n s b)) (span 0 total)

-- the numbers of the messages whose inner nested score on a block reaches a
abbrev pub lift_nested : Meaning → ℕ → Sheet → Letters
lift_nested mi a B = numbers mi.p (filter (λ x. nat_le a (mi.nested B x)) (messages mi.p mi.k))

-- the lifted sheet of the nested score, which asks no reach
unfoldable pub lifted_nested : ℕ → Meaning → ℕ → Sheet → Sheet
lifted_nested total mi a s = map (λ b. lift_nested mi a (block mi.n s b)) (span 0 total)
