-- A file that is too long has the same text where its end is cut off.
use Rattle.std.proofs.Common.{◌≡◌, ℕ, ◌<◌, Bool, true, false, leb, ltb, Option, None, Some, IfSome, List, length, take, refl, ap, ◌∙◌, arith}
use Rattle.std.specs.Prelude.{option_map}
use Rattle.std.proofs.lemmas.Bool.{leb-true, leb-false, cond-true, lt-ltb}
use Rattle.std.proofs.lemmas.List.{take_all, length-take-le}
use Rattle.fault.specs.declared.Fault.TheVariants.{Long}
use Rattle.hearings.specs.Lines.{refusal}
use Rattle.hearings.specs.Text.{text_of}

text_long : (file : List ℕ) → 65536 < length file → text_of file ≡ refusal 65536 Long
unfolding text_of
text_long file h = cond-true (ltb 65536 (length file)) _ _ (lt-ltb 65536 (length file) h)

cut_either : (file : List ℕ) (b : Bool) → leb (length file) 65537 ≡ b → text_of (take 65537 file) ≡ text_of file
cut_either file true e = ap text_of (take_all 65537 file (leb-true (length file) 65537 e))
cut_either file false e =
    let long : 65537 < length file = leb-false (length file) 65537 e in
    let cut : length (take 65537 file) ≡ 65537 = length-take-le 65537 file (omega (arith, long)) in
    rw (text_long (take 65537 file) (omega (arith, cut)), text_long file (omega (arith, long))) refl

pub text_cut : (file : List ℕ) → text_of (take 65537 file) ≡ text_of file
text_cut file = cut_either file (leb (length file) 65537) refl

-- the same of what a reader had left, where that is known
pub text_read : (o : Option (List ℕ)) (read : List ℕ) → IfSome (option_map (take 65537) o) (λ xs. read ≡ xs) → IfSome o (λ file. text_of read ≡ text_of file)
text_read None read h = tt
text_read (Some file) read h = ap text_of h ∙ text_cut file
