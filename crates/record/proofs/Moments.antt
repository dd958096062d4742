-- A run at each moment: the sheet that stands then, and what the next call answers and leaves in its buffer.
use Rattle.std.proofs.Common.{◌≡◌, ℕ, ◌+◌, ◌-◌, ◌<◌, ◌≤◌, Bool, true, false, List, [], ◌∷◌, ◌++◌, length, take, drop, Err, sym, refl, ap, ◌∙◌, subst, arith}
use mathlib.Core.Path.{fun_ext}
use Rattle.std.proofs.lemmas.List.{append_assoc, take-append-drop, take_more, drop_more, ext_get_or, length-take-le, length-replicate, get_or_at, length-append, length-drop, take_at, drop_at}
use Rattle.fault.specs.declared.Fault.TheVariants.{Place}
use Rattle.sheet.specs.Letters.{Sheet, none}
use Rattle.code.specs.Meaning.{Meaning}
use Rattle.code.specs.Answers.{shown}
use Rattle.code.proofs.Rows.{shown_length}
use Rattle.record.specs.declared.calls.Call.{Call}
use Rattle.record.specs.declared.calls.Call.TheVariants.{Hear, Strike, List as Lists}
use Rattle.record.specs.Book.{Answer, fresh, at, takes, says, next, left_in, run, answers, written}
use Rattle.record.specs.History.{call_at, answer_at, Remembers, StandsAfter, left_after, room_of, buffer_of}
use Rattle.record.proofs.History.{remembers_all, answers_length, next_length}

-- the calls xs, and then ys
run_split : (m : Meaning) (s : Sheet) (xs ys : List Call) → run m s (xs ++ ys) ≡ run m (run m s xs) ys
run_split m s [] ys = refl
run_split m s (c ∷ xs) ys = run_split m (next m s c) xs ys

answers_split : (m : Meaning) (s : Sheet) (xs ys : List Call) (left : ℕ) → answers m s (xs ++ ys) left ≡ answers m s xs left ++ answers m (run m s xs) ys (left_after xs left)
answers_split m s [] ys left = refl
answers_split m s (c ∷ xs) ys left = ap (λ z. says m s c (takes c left) ∷ z) (answers_split m (next m s c) xs ys (left - takes c left))

-- the bytes of the calls, and the bytes after them
front : Meaning → Sheet → List Call → List ℕ → List ℕ
front m s [] bs = []
front m s (c ∷ xs) bs = left_in m s c (take (takes c (length bs)) bs) ++ front m (next m s c) xs (drop (takes c (length bs)) bs)

pub rest_of : List Call → List ℕ → List ℕ
rest_of [] bs = bs
rest_of (c ∷ xs) bs = rest_of xs (drop (takes c (length bs)) bs)

written_split : (m : Meaning) (s : Sheet) (xs ys : List Call) (bs : List ℕ) → written m s (xs ++ ys) bs ≡ front m s xs bs ++ written m (run m s xs) ys (rest_of xs bs)
unfolding front rest_of
written_split m s [] ys bs = refl
written_split m s (c ∷ xs) ys bs =
    let part = left_in m s c (take (takes c (length bs)) bs) in
    let after = drop (takes c (length bs)) bs in
    ap (λ z. part ++ z) (written_split m (next m s c) xs ys after) ∙ sym (append_assoc part (front m (next m s c) xs after) _)

-- how long they are
pub left_length : (m : Meaning) (s : Sheet) (c : Call) (bs : List ℕ) → length (left_in m s c bs) ≡ length bs
left_length m s (Hear p l) bs = refl
left_length m s (Strike p) bs = refl
left_length m s (Lists t room) bs = shown_length m s t (length bs)

pub takes_fits : (c : Call) (left : ℕ) → takes c left ≤ left
takes_fits (Hear p l) left = omega arith
takes_fits (Strike p) left = omega arith
takes_fits (Lists t room) left = omega arith

left_fits : (xs : List Call) (left : ℕ) → left_after xs left ≤ left
left_fits [] left = omega arith
left_fits (c ∷ xs) left = let r = left_fits xs (left - takes c left) in omega arith

rest_length : (xs : List Call) (bs : List ℕ) → length (rest_of xs bs) ≡ left_after xs (length bs)
unfolding rest_of
rest_length [] bs = refl
rest_length (c ∷ xs) bs = rest_length xs (drop (takes c (length bs)) bs) ∙ ap (left_after xs) (length-drop (takes c (length bs)) bs)

front_length : (m : Meaning) (s : Sheet) (xs : List Call) (bs : List ℕ) → length (front m s xs bs) ≡ length bs - left_after xs (length bs)
unfolding front
front_length m s [] bs = let z : 0 ≡ length bs - length bs = omega arith in z
front_length m s (c ∷ xs) bs =
    let t = takes c (length bs) in
    let d = drop t bs in
    length-append (left_in m s c (take t bs)) (front m (next m s c) xs d)
    ∙ (let v = takes_fits c (length bs) in
    let a : length (left_in m s c (take t bs)) ≡ t = left_length m s c (take t bs) ∙ length-take-le t bs v in
    let b = front_length m (next m s c) xs d in
    let l = length-drop t bs in
    let e : left_after xs (length d) ≡ left_after xs (length bs - t) = ap (left_after xs) l in
    let u = left_fits xs (length bs - t) in
    let z : length (left_in m s c (take t bs)) + length (front m (next m s c) xs d) ≡ length bs - left_after xs (length bs - t) = omega arith in z)

pub run_length : (m : Meaning) (s : Sheet) (xs : List Call) → length (run m s xs) ≡ length s
run_length m s [] = refl
run_length m s (c ∷ xs) = run_length m (next m s c) xs ∙ next_length m s c

-- a sheet is known by its letters
same_bool : (a b : Bool) → (a ≡ true → b ≡ true) → (b ≡ true → a ≡ true) → a ≡ b
same_bool true b f g = sym (f refl)
same_bool false true f g = g refl
same_bool false false f g = refl

pub only_one : (m : Meaning) (calls : List Call) (replies : List Answer) (i : ℕ) (s u : Sheet) → StandsAfter m calls replies i s → StandsAfter m calls replies i u → s ≡ u
only_one m calls replies i s u rs ru =
    ext_get_or none s u (rs.places ∙ sym ru.places)
    (λ p h. fun_ext (λ l. same_bool (at s p l) (at u p l) (λ x. (ru.letters p l).1 ((rs.letters p l).0 x)) (λ x. (rs.letters p l).1 ((ru.letters p l).0 x))))

-- the book after the first i calls
abbrev pub book_at : Meaning → List Call → ℕ → Sheet
book_at m calls i = run m (fresh m) (take i calls)

module _ (m : Meaning) (calls : List Call) (i : ℕ) (hi : i < length calls) where
  cut : calls ≡ take i calls ++ (call_at calls i ∷ drop (i + 1) calls)
  cut = sym (take-append-drop i calls) ∙ ap (λ z. take i calls ++ z) (drop_more calls i (Hear 0 0) hi)

  pub book_more : book_at m calls (i + 1) ≡ next m (book_at m calls i) (call_at calls i)
  book_more = ap (run m (fresh m)) (take_more calls i (Hear 0 0) hi) ∙ run_split m (fresh m) (take i calls) (call_at calls i ∷ [])

  module _ (total : ℕ) (more : List Answer) where
    pub answer_now : answer_at (answers m (fresh m) calls total ++ more) i ≡ says m (book_at m calls i) (call_at calls i) (room_of calls total i)
    answer_now =
        let xs = take i calls in
        let c = call_at calls i in
        let u = book_at m calls i in
        let left = left_after xs total in
        let rest = answers m (next m u c) (drop (i + 1) calls) (left - takes c left) in
        let a = says m u c (takes c left) in
        ap (λ z. answer_at (answers m (fresh m) z total ++ more) i) cut
        ∙ ap (λ z. answer_at (z ++ more) i) (answers_split m (fresh m) xs (c ∷ drop (i + 1) calls) total)
        ∙ ap (λ z. answer_at z i) (append_assoc (answers m (fresh m) xs total) (a ∷ rest) more)
        ∙ get_or_at (answers m (fresh m) xs total) a (rest ++ more) (Err Place) i (answers_length m (fresh m) xs total ∙ length-take-le i calls (omega arith))

  -- the bytes that call i finds in its buffer, and what it leaves there
  module _ (bs : List ℕ) where
    abbrev tail_of : List ℕ
    tail_of = rest_of (take i calls) bs

    abbrev pub found : List ℕ
    found = take (takes (call_at calls i) (length tail_of)) tail_of

    pub found_length : length found ≡ room_of calls (length bs) i
    found_length =
        length-take-le (takes (call_at calls i) (length tail_of)) tail_of (takes_fits (call_at calls i) (length tail_of)) ∙ ap (takes (call_at calls i)) (rest_length (take i calls) bs)

    pub buffer_now : buffer_of calls (length bs) i (written m (fresh m) calls bs) ≡ left_in m (book_at m calls i) (call_at calls i) found
    buffer_now =
        let xs = take i calls in
        let c = call_at calls i in
        let u = book_at m calls i in
        let part = left_in m u c found in
        let after = written m (next m u c) (drop (i + 1) calls) (drop (takes c (length tail_of)) tail_of) in
        let begin = length bs - left_after xs (length bs) in
        let room = room_of calls (length bs) i in
        ap (λ z. take room (drop begin (written m (fresh m) z bs))) cut
        ∙ ap (λ z. take room (drop begin z)) (written_split m (fresh m) xs (c ∷ drop (i + 1) calls) bs)
        ∙ ap (take room) (drop_at (front m (fresh m) xs bs) (part ++ after) begin (front_length m (fresh m) xs bs))
        ∙ take_at part after room (left_length m u c found ∙ found_length)

    -- the bytes of a list
    pub shown_now : (t asked : ℕ) → call_at calls i ≡ Lists t asked → buffer_of calls (length bs) i (written m (fresh m) calls bs) ≡ shown m (book_at m calls i) t (room_of calls (length bs) i)
    shown_now t asked e = buffer_now ∙ ap (λ c. left_in m (book_at m calls i) c found) e ∙ ap (shown m (book_at m calls i) t) found_length

-- the book is what stands, before each call and at the end
pub stands_now : (m : Meaning) (calls : List Call) (total : ℕ) (more : List Answer) (i : ℕ) → StandsAfter m calls (answers m (fresh m) calls total ++ more) i (book_at m calls i)
stands_now m calls total more i =
    let xs = take i calls in
    let ys = drop i calls in
    let u = book_at m calls i in
    let rest = answers m u ys (left_after xs total) in
    let split : answers m (fresh m) calls total ++ more ≡ answers m (fresh m) xs total ++ (rest ++ more) =
    ap (λ z. answers m (fresh m) z total ++ more) (sym (take-append-drop i calls)) ∙ ap (λ z. z ++ more) (answers_split m (fresh m) xs ys total) ∙ append_assoc (answers m (fresh m) xs total) rest more in
    record {
      places = run_length m (fresh m) xs ∙ length-replicate m.n none;
      letters = subst (λ z. Remembers u xs z) (sym split) (remembers_all m xs total (rest ++ more));
    }
