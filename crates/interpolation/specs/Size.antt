-- The size of a curve's table.
use Rattle.std.specs.Prelude.{ℕ, ◌*◌}

-- how many powers of x
abbrev pub columns : ℕ
columns = 64

-- how many powers of y
abbrev pub rows : ℕ
rows = 16

abbrev pub cells : ℕ
cells = columns * rows
