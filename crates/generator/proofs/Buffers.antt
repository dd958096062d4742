-- Lists of rows laid out in a buffer, letter after letter.
use Rattle.std.proofs.Common.{◌≡◌, ℕ, suc, ◌+◌, ◌*◌, List, [], ◌∷◌, ◌++◌, length, drop, replicate, sym, refl, ap, ◌∙◌, inl, inr, mul-suc, arith}
use Rattle.std.proofs.lemmas.List.Edits.{paste_all}
use Rattle.std.proofs.lemmas.List.{append_assoc, length-append, drop-replicate}
use Rattle.code.specs.Answers.{padded}
use Rattle.sheet.specs.Letters.{Sheet}
use Rattle.code.specs.Meaning.{Meaning, listing}
use Rattle.code.specs.Messages.{each, messages}
use Rattle.code.proofs.Alone.{row_length}
use Rattle.code.proofs.Members.{In, kept_in, in_row}
use Rattle.generator.specs.Steps.{written}

-- lists of rows, one after another
pub each_append : (xs ys : List (List ℕ)) → each (λ z. z) (xs ++ ys) ≡ each (λ z. z) xs ++ each (λ z. z) ys
each_append [] ys = refl
each_append (x ∷ xs) ys = ap (λ z. x ++ z) (each_append xs ys) ∙ sym (append_assoc x (each (λ z. z) xs) (each (λ z. z) ys))

-- rows of k letters
each_length : (k : ℕ) (L : List (List ℕ)) → ((x : List ℕ) → In x L → length x ≡ k) → length (each (λ x. x) L) ≡ k * length L
each_length k [] h = let z : 0 ≡ k * 0 = omega arith in z
each_length k (x ∷ L) h =
    let a = h x (inl refl) in
    let b = each_length k L (λ y r. h y (inr r)) in
    let s = mul-suc k (length L) in
    length-append x (each (λ x. x) L) ∙ (let z : length x + length (each (λ x. x) L) ≡ k * suc (length L) = omega arith in z)

-- the letters of a list
pub list_length : (m : Meaning) (s : Sheet) (t : ℕ) → length (each (λ x. x) (listing m s t)) ≡ m.k * length (listing m s t)
unfolding listing
list_length m s t = each_length m.k (listing m s t) (λ x h. row_length m.k m.p x (in_row m.p m.k x (kept_in _ x (messages m.p m.k) h).1))

-- letters at the front of a zero buffer
pub front_zeros : (len : ℕ) (xs : List ℕ) → written 0 xs (replicate len 0) ≡ padded len xs
front_zeros len xs =
    paste_all (replicate len 0) 0 xs (length xs) refl
    ∙ ap (λ z. xs ++ z) (ap (λ z. drop z (replicate len 0)) (let z : 0 + length xs ≡ length xs = omega arith in z) ∙ drop-replicate (length xs) len 0)
