-- What serving one call more keeps.
use Rattle.std.proofs.Common.{◌≡◌, ℕ, ◌+◌, ◌-◌, ◌<◌, ◌≤◌, List, [], ◌∷◌, ◌++◌, length, take, drop, set, sym, ap, ◌∙◌, arith}
use Rattle.std.proofs.lemmas.List.{append_assoc, drop_more, take_more_set, drop-set-lt, drop-drop, length-append, length-drop, length-take, get_or-take, length-take-le, take_at, drop_at}
use Rattle.sheet.specs.Letters.{Sheet}
use Rattle.code.specs.Meaning.{Meaning}
use Rattle.record.specs.declared.calls.Call.{Call}
use Rattle.record.specs.declared.calls.Call.TheVariants.{Hear}
use Rattle.record.specs.Book.{Answer, takes, says, next, left_in, run, answers, written, served}
use Rattle.record.specs.History.{call_at}
use Rattle.record.proofs.Moments.{left_length, takes_fits}

-- after i of the calls cs, with `at` bytes taken: what is to come leads where the whole does
pub record Sofar (m : Meaning) (cs : List Call) (s0 : Sheet) (slots0 : List Answer) (bytes0 : List ℕ) (i at : ℕ) (s : Sheet) (slots : List Answer) (bytes : List ℕ) : Type 0 where
  pub within : at ≤ length bytes
  pub long : length bytes ≡ length bytes0
  pub book : run m s (drop i cs) ≡ run m s0 cs
  pub replies : take i slots ++ answers m s (drop i cs) (length bytes - at) ≡ answers m s0 cs (length bytes0)
  pub later : drop i slots ≡ drop i slots0
  pub buffers : take at bytes ++ written m s (drop i cs) (drop at bytes) ≡ written m s0 cs bytes0

-- what one call did: its answer is in slot i, and its buffer is the bytes from `at` to `end`
pub record Turn (m : Meaning) (s : Sheet) (c : Call) (i at end : ℕ) (slots : List Answer) (bytes : List ℕ) (s' : Sheet) (slots' : List Answer) (bytes' : List ℕ) : Type 0 where
  pub ended : end ≡ at + takes c (length bytes - at)
  pub after : s' ≡ next m s c
  pub answer : slots' ≡ set slots i (says m s c (end - at))
  pub buffer : bytes' ≡ take at bytes ++ (left_in m s c (take (end - at) (drop at bytes)) ++ drop (end - at) (drop at bytes))

pub sofar_more : (calls : List Call) {m : Meaning} {s0 : Sheet} {slots0 : List Answer} {bytes0 : List ℕ} {i at : ℕ} {s : Sheet} {slots : List Answer} {bytes : List ℕ} {end : ℕ} {s' : Sheet} {slots' : List Answer} {bytes' : List ℕ}
    → Sofar m (served calls slots0) s0 slots0 bytes0 i at s slots bytes
    → Turn m s (call_at calls i) i at end slots bytes s' slots' bytes'
    → i < length calls → i < length slots → length slots ≡ length slots0
    → Sofar m (served calls slots0) s0 slots0 bytes0 (i + 1) end s' slots' bytes'
sofar_more calls {m} {s0} {slots0} {bytes0} {i} {at} {s} {slots} {bytes} {end} {s'} {slots'} {bytes'} so t hc hs hss =
    let c = call_at calls i in
    let cs = served calls slots0 in
    let cs' = drop (i + 1) cs in
    let w = so.within in
    let L = length (drop at bytes) in
    let eL : L ≡ length bytes - at = length-drop at bytes in
    let took : end - at ≡ takes c L = (let e = t.ended in omega arith) ∙ ap (takes c) (sym eL) in
    let fits = takes_fits c L in
    let part = left_in m s c (take (takes c L) (drop at bytes)) in
    let rest = drop (takes c L) (drop at bytes) in
    let split : drop i cs ≡ c ∷ cs' =
    drop_more cs i (Hear 0 0) (let e = length-take (length slots0) calls in omega arith) ∙ ap (λ x. x ∷ cs') (get_or-take (length slots0) calls i (Hear 0 0) (omega arith)) in
    let whole : bytes' ≡ (take at bytes ++ part) ++ rest = t.buffer ∙ ap (λ z. take at bytes ++ (left_in m s c (take z (drop at bytes)) ++ drop z (drop at bytes))) took ∙ sym (append_assoc (take at bytes) part rest) in
    let lenp : length part ≡ takes c L = left_length m s c (take (takes c L) (drop at bytes)) ∙ length-take-le (takes c L) (drop at bytes) fits in
    let front : length (take at bytes ++ part) ≡ end =
    length-append (take at bytes) part ∙ (let a = length-take-le at bytes w in let e = t.ended in let z : length (take at bytes) + length part ≡ end = omega arith in z) in
    let left : take end bytes' ≡ take at bytes ++ part = ap (take end) whole ∙ take_at _ _ end front in
    let right : drop end bytes' ≡ rest = ap (drop end) whole ∙ drop_at _ _ end front in
    let lenb : length bytes' ≡ length bytes = ap length whole ∙ length-append (take at bytes ++ part) rest ∙ (let r = length-drop (takes c L) (drop at bytes) in let e = t.ended in let z : length (take at bytes ++ part) + length rest ≡ length bytes = omega arith in z) in
    record {
      within = (let e = t.ended in omega arith);
      long = lenb ∙ so.long;
      book = ap (λ x. run m x cs') t.after ∙ sym (ap (run m s) split) ∙ so.book;
      replies =
          ap (λ x. take (i + 1) x ++ answers m s' cs' (length bytes' - end)) t.answer
          ∙ ap (λ x. x ++ answers m s' cs' (length bytes' - end)) (take_more_set slots i (says m s c (end - at)) hs)
          ∙ append_assoc (take i slots) (says m s c (end - at) ∷ []) _
          ∙ ap (λ x. take i slots ++ (says m s c x ∷ answers m s' cs' (length bytes' - end))) took
          ∙ ap (λ x. take i slots ++ (says m s c (takes c L) ∷ answers m x cs' (length bytes' - end))) t.after
          ∙ ap (λ x. take i slots ++ (says m s c (takes c L) ∷ answers m (next m s c) cs' x)) (let e = t.ended in let z : length bytes' - end ≡ L - takes c L = omega arith in z)
          ∙ ap (λ x. take i slots ++ answers m s x L) (sym split)
          ∙ ap (λ x. take i slots ++ answers m s (drop i cs) x) eL
          ∙ so.replies;
      later = ap (drop (i + 1)) t.answer ∙ drop-set-lt (i + 1) slots i _ (omega arith) ∙ sym (drop-drop 1 i slots) ∙ ap (drop 1) so.later ∙ drop-drop 1 i slots0;
      buffers =
          ap (λ x. x ++ written m s' cs' (drop end bytes')) left
          ∙ ap (λ x. (take at bytes ++ part) ++ written m s' cs' x) right
          ∙ ap (λ x. (take at bytes ++ part) ++ written m x cs' rest) t.after
          ∙ append_assoc (take at bytes) part _
          ∙ ap (λ x. take at bytes ++ written m s x (drop at bytes)) (sym split)
          ∙ so.buffers;
    }
