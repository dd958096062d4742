-- How long a text can be.
use Rattle.std.proofs.Common.{◌≡◌, ℕ, zero, suc, ◌+◌, ◌*◌, ◌/◌, ◌%◌, ◌==◌, ◌^◌, ◌<◌, ◌≤◌, ◌-◌, Bool, true, false, cond, ◌&&◌, leb, ltb, List, [], ◌∷◌, ◌++◌, length, take, drop, codes, decimal, Some, None, Option, Ok, Err, refl, suc-mul, mul_comm, arith, length-append, length-take}
use Rattle.std.specs.Fmt.{digits, digits_onto, digit_glyph}
use Rattle.std.proofs.lemmas.Bool.{leb-true, ltb-false}
use Rattle.fault.specs.Numbers.{number}
use Rattle.fault.specs.declared.Fault.{Fault}
use Rattle.fault.specs.declared.Fault.TheVariants.{Agreement, Sheet as BadSheet, Long, Code, Short, Unchosen}
use Rattle.sheet.specs.Letters.{Sheet}
use Rattle.code.specs.Meaning.{Meaning, Verdict, within, beyond, is_sheet, listing}
use Rattle.code.specs.Answers.{reached}
use Rattle.code.specs.Messages.{each, rows}
use Rattle.record.specs.declared.calls.Call.{Call}
use Rattle.record.specs.declared.calls.Call.TheVariants.{Hear, Strike, List as Lists}
use Rattle.record.specs.Book.{Answer, says}
use Rattle.house_codes.specs.House.{slab, header, brine, house}
use Rattle.hearings.specs.Lines.{field, newline, choice_line, where_out, refusal, list_line, gap, letters_from, message_line}
use Rattle.hearings.specs.File.{Entry, choose, call, bad, Front, nothing, first, front, then_more, entries_from, entries}
use Rattle.hearings.specs.Text.{Book, unchosen, chosen, opened, again, choice_lines, answer_lines, lines_of, turned, lines, text_of}

then_short : {a b : ℕ} (s t : List ℕ) → length s ≤ a → length t ≤ b → length (s ++ t) ≤ a + b
then_short s t p q = omega (arith, length-append s t, p, q)

either_short : (n : ℕ) (b : Bool) (s t : List ℕ) → length s ≤ n → length t ≤ n → length (cond b s t) ≤ n
either_short n true s t p q = p
either_short n false s t p q = q

onto_short : (k base : ℕ) (upper : Bool) (n : ℕ) (acc : List ℕ) → length (digits_onto k base upper n acc) ≤ k + length acc
onto_short zero base upper n acc = omega arith
onto_short (suc k) base upper n acc =
    let last = digit_glyph upper (n % base) in
    let more : length (digits_onto k base upper (n / base) (last ∷ acc)) ≤ suc k + length acc = omega (arith, onto_short k base upper (n / base) (last ∷ acc)) in
    either_short (suc k + length acc) (n / base == 0) (last ∷ acc) _ (omega arith) more

decimal_short : (n : ℕ) → length (decimal n) ≤ 64
unfolding digits
decimal_short n = omega (arith, onto_short 64 10 false n [])

field_short : (words : List ℕ) (n : ℕ) → length (field words n) ≤ length words + 64
field_short words n = then_short words (decimal n) (omega arith) (decimal_short n)

choice_short : (c : ℕ) (m : Meaning) → length (choice_line c m) ≤ 500
choice_short c m = simp length-append (omega (arith, decimal_short c, decimal_short m.family, decimal_short m.q, decimal_short m.n, decimal_short m.top, decimal_short m.least))

place_short : (level place : ℕ) → length (field (codes " level ") level ++ field (codes " place ") place) ≤ 200
place_short level place = simp length-append (omega (arith, decimal_short level, decimal_short place))

where_short : (f : Fault) → length (where_out f) ≤ 200
where_short f = grind (arith, place_short)

refusal_short : (at : ℕ) (f : Fault) → length (refusal at f) ≤ 500
refusal_short at f = simp length-append (omega (arith, decimal_short (number f), decimal_short at, where_short f))

list_short : (t count : ℕ) → length (list_line t count) ≤ 200
list_short t count = simp length-append (omega (arith, decimal_short t, decimal_short count))

gap_short : (i : ℕ) → length (gap i) ≤ 1
gap_short zero = omega arith
gap_short (suc i) = omega arith

letters_short : (i : ℕ) (ls : List ℕ) → length (letters_from i ls) ≤ 65 * length ls
letters_short i [] = omega arith
letters_short i (l ∷ ls) =
    omega (arith, length-append (field (gap i) l) (letters_from (suc i) ls), field_short (gap i) l, gap_short i, letters_short (suc i) ls)

row_short : (k : ℕ) (bytes : List ℕ) → length (message_line (take k bytes)) ≤ 65 * k + 1
row_short k bytes = omega (arith, length-append (letters_from 0 (take k bytes)) newline, letters_short 0 (take k bytes), length-take k bytes)

rows_short : (k count : ℕ) (bytes : List ℕ) → length (each message_line (rows k count bytes)) ≤ 65 * (count * k) + count
rows_short k zero bytes = omega arith
rows_short k (suc count) bytes =
    omega (arith, length-append (message_line (take k bytes)) (each message_line (rows k count (drop k bytes))), row_short k bytes, rows_short k count (drop k bytes), suc-mul count k)

-- the messages of a list that is answered lie in its buffer
abbrev Fits : (k : ℕ) → Call → Answer → (size : ℕ) → Type 0
Fits k (Hear p l) a size = Unit {0}
Fits k (Strike p) a size = Unit {0}
Fits k (Lists t r) (Ok count) size = count * k ≤ size
Fits k (Lists t r) (Err f) size = Unit {0}

few : (k l len : ℕ) → 1 ≤ k → k * l ≤ len → l ≤ len
few zero l len p h = absurd (omega arith)
few (suc k) l len p h = omega (arith, suc-mul k l)

fits_either : (k : ℕ) (x : Call) (len : ℕ) (b : Bool) (a e : Answer) → (b ≡ true → Fits k x a len) → Fits k x e len → Fits k x (cond b a e) len
fits_either k x len true a e p q = p refl
fits_either k x len false a e p q = q

reached_fits : (k t r len : ℕ) (L : List (List ℕ)) (v : Verdict) → Fits k (Lists t r) (reached k len L v) len
reached_fits k t r len L within =
    fits_either k (Lists t r) len (leb (k * length L) len) (Ok (length L)) (Err Short) (λ e. let h = leb-true (k * length L) len e in rw mul_comm h) tt
reached_fits k t r len L (beyond level place) = tt

says_fits : (m : Meaning) (s : Sheet) (x : Call) (len : ℕ) → Fits m.k x (says m s x len) len
says_fits m s (Hear p l) len = tt
says_fits m s (Strike p) len = tt
says_fits m s (Lists t r) len =
    fits_either m.k (Lists t r) len (is_sheet m s) _ (Err BadSheet)
    (λ _. fits_either m.k (Lists t r) len (leb 1 t && leb t m.top) _ (Err Agreement) (λ _. reached_fits m.k t r len (listing m s t) (m.reach s t)) tt) tt

answer_short : (at k : ℕ) (x : Call) (a : Answer) (bytes : List ℕ) → 1 ≤ k → Fits k x a 256 → length (answer_lines at k x a bytes) ≤ 20000
answer_short at k x (Err f) bytes some fits = omega (arith, refusal_short at f)
answer_short at k (Hear p l) (Ok count) bytes some fits = omega arith
answer_short at k (Strike p) (Ok count) bytes some fits = omega arith
answer_short at k (Lists t r) (Ok count) bytes some fits =
    let low : k * count ≤ 256 = rw mul_comm fits in
    omega (arith, then_short (list_line t count) (each message_line (rows k count bytes)) (list_short t count) (rows_short k count bytes), few k count 256 some low, fits)

-- a message of the code has a letter
abbrev Kept : Book → Type 0
Kept unchosen = Unit {0}
Kept (chosen m s) = 1 ≤ m.k

kept_either : (b : Bool) (x y : Option Meaning) → Kept (opened x) → Kept (opened y) → Kept (opened (cond b x y))
kept_either true x y p q = p
kept_either false x y p q = q

kept_opened : (c : ℕ) → Kept (opened (house c))
kept_opened c =
    kept_either (c == 1) (Some slab) _ (omega arith)
    (kept_either (c == 2) (Some header) _ (omega arith) (kept_either (c == 3) (Some brine) None (omega arith) tt))

kept_turned : (b : Book) (e : Entry) → Kept b → Kept (turned b e)
kept_turned unchosen (choose c) h = kept_opened c
kept_turned unchosen (call x) h = tt
kept_turned unchosen (bad f) h = tt
kept_turned (chosen m s) (choose c) h = h
kept_turned (chosen m s) (call x) h = h
kept_turned (chosen m s) (bad f) h = h

choice_lines_short : (at c : ℕ) (o : Option Meaning) → length (choice_lines at c o) ≤ 500
choice_lines_short at c None = refusal_short at Code
choice_lines_short at c (Some m) = choice_short c m

entry_short : (b : Book) (at : ℕ) (e : Entry) → Kept b → length (lines_of b at e) ≤ 20000
entry_short unchosen at (choose c) h = omega (arith, choice_lines_short at c (house c))
entry_short unchosen at (call x) h = omega (arith, refusal_short at Unchosen)
entry_short unchosen at (bad f) h = omega (arith, refusal_short at f)
entry_short (chosen m s) at (choose c) h = omega (arith, refusal_short at (again (house c)))
entry_short (chosen m s) at (call x) h = answer_short at m.k x (says m s x 256) _ h (says_fits m s x 256)
entry_short (chosen m s) at (bad f) h = omega (arith, refusal_short at f)

lines_short : (b : Book) (es : List (ℕ × Entry)) → Kept b → length (lines b es) ≤ 20000 * length es
unfolding lines
lines_short b [] h = omega arith
lines_short b (e ∷ es) h =
    omega (arith, length-append (lines_of b e.0 e.1) (lines (turned b e.1) es), entry_short b e.0 e.1 h, lines_short (turned b e.1) es (kept_turned b e.1 h))

more_few : (at n : ℕ) (more : List ℕ → List (ℕ × Entry)) (r : Front) → ((xs : List ℕ) → length (more xs) ≤ n) → length (then_more at more r) ≤ suc n
more_few at n more nothing h = omega arith
more_few at n more (first e rest) h = omega (arith, h rest)

entries_few : (total d : ℕ) (left : List ℕ) → length (entries_from total d left) ≤ d
unfolding entries_from
entries_few total zero left = omega arith
entries_few total (suc d) left = more_few (total - length left) d (entries_from total d) (front left) (entries_few total d)

-- the length of a text is a number of 64 bits
text_either : (file : List ℕ) (b : Bool) → ltb 65536 (length file) ≡ b → length (cond b (refusal 65536 Long) (lines unchosen (entries file))) < 2 ^ 64
unfolding entries
text_either file true e = omega (arith, refusal_short 65536 Long)
text_either file false e =
    omega (arith, ltb-false 65536 (length file) e, lines_short unchosen (entries_from (length file) (length file) file) tt, entries_few (length file) (length file) file)

pub text_short : (file : List ℕ) → length (text_of file) < 2 ^ 64
unfolding text_of
text_short file = text_either file (ltb 65536 (length file)) refl
