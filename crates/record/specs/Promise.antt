-- What is promised of every sequence of calls of a record, by the history of the calls alone.
use Rattle.std.specs.Prelude.{◌≡◌, ℕ, ◌+◌, ◌-◌, ◌<◌, ◌≤◌, true, false, if◌then◌else◌, ◌&&◌, List, length, replicate, Ok, Err, ◌≢◌, nat_le}
use Rattle.fault.specs.declared.Fault.{Fault}
use Rattle.fault.specs.declared.Fault.TheVariants.{Sheet as BadSheet}
use Rattle.sheet.specs.Letters.{Sheet, size, weight}
use Rattle.algebra.specs.Field.{Meaning as Field, Laws}
use Rattle.counting.specs.Counting.{limits, in_reach}
use Rattle.code.specs.Messages.{is_row, each}
use Rattle.code.specs.Meaning.{Meaning, is_sheet}
use Rattle.code.specs.Answers.{padded, shown}
use Rattle.code.specs.Rising.{rising, occurs}
use Rattle.concatenated.specs.Concatenation.{concatenated}
use Rattle.concatenated.specs.Reaching.{Iff, PartOut, SaysReach}
use Rattle.reed_solomon.specs.ReedSolomon.{rs_at, Points, Bounds}
use Rattle.record.specs.declared.calls.Call.{Call}
use Rattle.record.specs.declared.calls.Call.TheVariants.{Hear, Strike, List as Lists}
use Rattle.record.specs.Book.{Answer, at, says}
use Rattle.record.specs.History.{call_at, answer_at, IsCall, Remembers, StandsAfter, room_of, buffer_of}

-- after the first i calls just one sheet can stand, and it is a sheet of the code
pub record OneStands (m : Meaning) (calls : List Call) (answers : List Answer) (i : ℕ) : Type 0 where
  pub sheet : Sheet
  pub stands : StandsAfter m calls answers i sheet
  pub whole : is_sheet m sheet ≡ true
  pub alone : (s : Sheet) → StandsAfter m calls answers i s → s ≡ sheet

-- call i is a list at agreement t that asks for so many bytes, and s holds the letters that stand then
pub record ListsAt (m : Meaning) (calls : List Call) (answers : List Answer) (i t room : ℕ) (s : Sheet) : Type 0 where
  pub lists : IsCall calls i (Lists t room)
  pub stands : StandsAfter m calls answers i s

-- a buffer of len bytes holds so many messages one after another, and then zeros. They rise strictly, and
-- each message whose nested score on s is at least t is one of them, once, and nothing else is
pub record HoldsExactly (m : Meaning) (s : Sheet) (t count len : ℕ) (bytes : List ℕ) : Type 0 where
  pub list : List (List ℕ)
  pub counted : length list ≡ count
  pub laid : bytes ≡ padded len (each (λ x. x) list)
  pub rises : rising list ≡ true
  pub holds : (x : List ℕ) → occurs x list ≡ (if is_row m.k m.p x && nat_le t (m.nested s x) then 1 else 0)

-- m is the Reed-Solomon code of k letters over the field F at n different points of it
pub record IsReedSolomon (m : Meaning) (F : Field) (n k : ℕ) (points : List ℕ) : Type 0 where
  pub laws : Laws F
  pub bounds : Bounds n k
  pub points_apart : Points F n points
  pub is : m ≡ rs_at limits F n points k

-- m is what the code means. Answer i is that of call i, and slots that no call uses may follow. `bytes` are all the bytes of the buffers
-- after the calls, `total` of them, and s holds the letters that stand at the end.
pub record Promise (m : Meaning) (calls : List Call) (answers : List Answer) (total : ℕ) (bytes : List ℕ) (s : Sheet) : Type 0 where
  -- a letter stands at the end if and only if some accepted hear of it at its place has no accepted strike of the place after it
  pub letters : Remembers s calls answers
  -- before each call and at the end there is just one sheet that holds the letters standing then, so no line below says nothing
  pub stood : (i : ℕ) → i ≤ length calls → OneStands m calls answers i
  -- each call, refused or not, answers what the plain book answers that holds the letters standing then
  pub answered : (i : ℕ) → i < length calls → (u : Sheet) → StandsAfter m calls answers i u
      → answer_at answers i ≡ says m u (call_at calls i) (room_of calls total i)
  -- an accepted hear answers how many letters stand at its place after it
  pub hears : (i p l count : ℕ) → IsCall calls i (Hear p l) → answer_at answers i ≡ Ok count
      → (u : Sheet) → StandsAfter m calls answers (i + 1) u → count ≡ size (at u p)
  -- an accepted strike answers how many letters stood at its place before it
  pub strikes : (i p count : ℕ) → IsCall calls i (Strike p) → answer_at answers i ≡ Ok count
      → (u : Sheet) → StandsAfter m calls answers i u → count ≡ size (at u p)
  -- a refused call changes no letter, and leaves its buffer zero
  pub refused : (i : ℕ) (f : Fault) → i < length calls → answer_at answers i ≡ Err f
      → (u v : Sheet) → StandsAfter m calls answers i u → StandsAfter m calls answers (i + 1) v → v ≡ u
  pub zeros : (i : ℕ) (f : Fault) → i < length calls → answer_at answers i ≡ Err f → buffer_of calls total i bytes ≡ replicate (room_of calls total i) 0
  -- no call is refused for its sheet
  pub sheets : (i : ℕ) → i < length calls → answer_at answers i ≢ Err BadSheet
  -- a list leaves in its buffer what the listing rule says for the letters standing then, all zeros where it is refused
  pub shows : (i t room : ℕ) (u : Sheet) → ListsAt m calls answers i t room u → buffer_of calls total i bytes ≡ shown m u t (room_of calls total i)
  -- an answered list holds exactly the messages whose nested score on the letters standing then reaches the agreement, each once, in rising order
  pub exact : (i t room count : ℕ) (u : Sheet) → ListsAt m calls answers i t room u → answer_at answers i ≡ Ok count
      → HoldsExactly m u t count (room_of calls total i) (buffer_of calls total i bytes)
  -- a concatenation of any two codes, at an agreement in range, answers REACH exactly when
  -- some block is out of reach for the inner code, or the lifted sheet for the outer code
  pub concatenation : (mo mi : Meaning) (a : ℕ) → m ≡ concatenated mo mi a
      → (i t room : ℕ) (u : Sheet) → ListsAt m calls answers i t room u → 1 ≤ t → t ≤ m.top
      → Iff (SaysReach (answer_at answers i)) (PartOut mo mi a u t)
  -- a Reed-Solomon code over any lawful field at any different points, at an agreement in range,
  -- answers REACH exactly when the counting rule fails for the number of letters standing then
  pub reed_solomon : (F : Field) (n k : ℕ) (points : List ℕ) → IsReedSolomon m F n k points
      → (i t room : ℕ) (u : Sheet) → ListsAt m calls answers i t room u → 1 ≤ t → t ≤ m.top
      → Iff (SaysReach (answer_at answers i)) (in_reach limits (k - 1) t (weight u) ≡ false)
  -- and never lists more than fifteen messages
  pub few : (F : Field) (n k : ℕ) (points : List ℕ) → IsReedSolomon m F n k points
      → (i t room count : ℕ) → IsCall calls i (Lists t room) → answer_at answers i ≡ Ok count → count ≤ 15
