-- A text in a caller's buffer.
use Rattle.std.specs.Prelude.{◌≡◌, ℕ, ◌+◌, ◌-◌, ◌^◌, min, List, [], ◌∷◌, ◌++◌, length, replicate, nat_le, slice_set, if◌then◌else◌}
use Rattle.hearings.specs.declared.writing.Text.{Text}

-- the bytes of a buffer, and where the text in it ends
pub record Page : Type 0 where
  pub bytes : List ℕ
  pub end : ℕ

-- a buffer with no text in it
abbrev pub blank : List ℕ → Page
blank bytes = record { bytes = bytes; end = 0 }

-- a byte is put at the end; past the buffer it is lost, and the end moves on, up to the largest number
abbrev pub put : Page → ℕ → Page
put p b = record { bytes = slice_set p.bytes p.end b; end = min (p.end + 1) (2 ^ 64 - 1) }

-- the bytes of a text are put one after another
unfoldable pub puts : Page → List ℕ → Page
puts p [] = p
puts p (b ∷ t) = puts (put p b) t

abbrev pub page : Text → Page
page t = record { bytes = t.bytes.now; end = t.end }

-- these bytes were added to a text, in the same buffer
pub record Wrote (before : Text) (bytes : List ℕ) (after : Text) : Type 0 where
  pub is : page after ≡ puts (page before) bytes
  pub same : after.bytes.ghost_name ≡ before.bytes.ghost_name

-- what a buffer of so many bytes holds of a text: the text and zeros, or zeros alone where the text does not fit
abbrev pub held : ℕ → List ℕ → List ℕ
held size t = if nat_le (length t) size then t ++ replicate (size - length t) 0 else replicate size 0
