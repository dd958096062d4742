-- Sets of letters, as tests on a letter, and sheets.
use Rattle.std.specs.Prelude.{ℕ, zero, suc, ◌+◌, Bool, false, if◌then◌else◌, ◌||◌, List, sum_by, ◌==◌}

abbrev pub Letters : Type 0
Letters = ℕ → Bool

abbrev pub none : Letters
none = λ _. false

-- a letter joins a set
abbrev pub join : ℕ → Letters → Letters
join l s = λ k. (k == l) || s k

abbrev pub union : Letters → Letters → Letters
union s u = λ k. s k || u k

-- how many letters below n stand
unfoldable pub tally : Letters → ℕ → ℕ
tally s zero = 0
tally s (suc n) = (if s n then 1 else 0) + tally s n

-- how many letters stand; a letter is below 256
unfoldable pub size : Letters → ℕ
unfolding tally
size s = tally s 256

-- a sheet gives each place a set of letters
abbrev pub Sheet : Type 0
Sheet = List Letters

-- the load of a sheet: the number of its standing letters
abbrev pub weight : Sheet → ℕ
weight s = sum_by size s
