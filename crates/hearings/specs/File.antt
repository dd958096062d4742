-- A hearings file: records one after another.
use Rattle.std.specs.Prelude.{ℕ, zero, suc, ◌-◌, Bool, ◌&&◌, List, [], ◌∷◌, length, take, drop, ◌==◌, nat_le, slice_index, if◌then◌else◌}
use Rattle.fault.specs.declared.Fault.{Fault}
use Rattle.fault.specs.declared.Fault.TheVariants.{Kind, Cut}
use Rattle.record.specs.declared.calls.Call.{Call}
use Rattle.record.specs.declared.calls.Call.TheVariants.{Hear, Strike, List as Lists}

-- the bytes of a file that is read
abbrev pub longest : ℕ
longest = 65536

-- the bytes that each list has for its buffer
abbrev pub room : ℕ
room = 256

-- a record of the file: a choice of a code, or a call of the record of letters
pub data Entry : Type 0 where
  choose : ℕ → Entry
  call : Call → Entry
  -- no record: its kind is unknown, or the file ends inside it. It ends the reading
  bad : Fault → Entry

-- kinds: 1 choose, 2 heard, 3 struck, 4 list
abbrev pub known : ℕ → Bool
known kind = nat_le 1 kind && nat_le kind 4

-- how many bytes follow a kind byte
abbrev pub body : ℕ → ℕ
body kind = if kind == 2 then 2 else 1

-- the record of a known kind with this body
abbrev pub entry : ℕ → List ℕ → Entry
entry kind bytes =
    if kind == 1 then choose (slice_index bytes 0)
    else if kind == 2 then call (Hear (slice_index bytes 0) (slice_index bytes 1))
    else if kind == 3 then call (Strike (slice_index bytes 0))
    else call (Lists (slice_index bytes 0) room)

-- what stands at the front of the bytes that are left: nothing, or a record and the bytes after it
pub data Front : Type 0 where
  nothing : Front
  first : Entry → List ℕ → Front

-- what follows a known kind byte: a body and the bytes after it, or too few bytes
abbrev pub after_kind : ℕ → List ℕ → Front
after_kind kind rest =
    if nat_le (body kind) (length rest)
    then first (entry kind (take (body kind) rest)) (drop (body kind) rest)
    else first (bad Cut) []

abbrev pub front : List ℕ → Front
front [] = nothing
front (kind ∷ rest) = if known kind then after_kind kind rest else first (bad Kind) []

abbrev pub then_more : ℕ → (List ℕ → List (ℕ × Entry)) → Front → List (ℕ × Entry)
then_more at more nothing = []
then_more at more (first e rest) = (at, e) ∷ more rest

-- the records in the last bytes of a file of `total` bytes, at most d of them, each with the offset of its kind byte
unfoldable pub entries_from : (total d : ℕ) → List ℕ → List (ℕ × Entry)
entries_from total zero left = []
entries_from total (suc d) left = then_more (total - length left) (entries_from total d) (front left)

-- the records of a file; it has no more records than bytes
unfoldable pub entries : List ℕ → List (ℕ × Entry)
unfolding entries_from
entries file = entries_from (length file) (length file) file
