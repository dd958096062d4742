-- The text of a file, record by record.
use Rattle.std.proofs.Common.{◌≡◌, ℕ, ◌<◌, ◌≤◌, ltb, List, [], ◌∷◌, ◌++◌, length, sym, refl, ap}
use Rattle.std.proofs.lemmas.Bool.{lt-ltb, le-ltb, cond-true, cond-false}
use Rattle.fault.specs.declared.Fault.{Fault}
use Rattle.fault.specs.declared.Fault.TheVariants.{Long}
use Rattle.hearings.specs.Lines.{refusal}
use Rattle.hearings.specs.File.{Entry, bad, entries}
use Rattle.hearings.specs.Text.{Book, unchosen, chosen, lines_of, turned, lines, text_of}

-- nothing is left to print
pub lines_none : (b : Book) (es : List (ℕ × Entry)) → es ≡ [] → lines b es ≡ []
unfolding lines
lines_none b es e = ap (lines b) e

-- what the first record prints, and then what the others do
pub lines_next : (b : Book) (at : ℕ) (e : Entry) (es rest : List (ℕ × Entry)) → es ≡ (at, e) ∷ rest → lines b es ≡ lines_of b at e ++ lines (turned b e) rest
unfolding lines
lines_next b at e es rest h = ap (lines b) h

pub lines_of_bad : (b : Book) (at : ℕ) (f : Fault) → lines_of b at (bad f) ≡ refusal at f
lines_of_bad unchosen at f = refl
lines_of_bad (chosen m s) at f = refl

-- a file that is too long, and one that is read
pub text_long : (file : List ℕ) → 65536 < length file → refusal 65536 Long ≡ text_of file
unfolding text_of
text_long file h = sym (cond-true (ltb 65536 (length file)) _ _ (lt-ltb 65536 (length file) h))

pub text_read : (file : List ℕ) → length file ≤ 65536 → lines unchosen (entries file) ≡ text_of file
unfolding text_of
text_read file h = sym (cond-false (ltb 65536 (length file)) _ _ (le-ltb 65536 (length file) h))
