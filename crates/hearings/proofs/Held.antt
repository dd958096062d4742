-- What a buffer holds of a text.
use Rattle.std.proofs.Common.{◌≡◌, ℕ, zero, suc, ◌+◌, ◌-◌, ◌^◌, ◌<◌, ◌≤◌, min, leb, List, [], ◌∷◌, ◌++◌, length, replicate, sym, refl, ap, ◌∙◌, append_assoc, arith, length-append}
use Rattle.std.proofs.lemmas.List.{set_at, length-set}
use Rattle.std.proofs.lemmas.Bool.{le-leb, lt-leb, cond-true, cond-false}
use Rattle.hearings.specs.Writing.{Page, blank, put, puts, held}

-- the end of a text that can be counted
puts_end : (p : Page) (t : List ℕ) → p.end + length t < 2 ^ 64 → (puts p t).end ≡ p.end + length t
unfolding puts
puts_end p [] h = omega arith
puts_end p (b ∷ t) h =
    let one : min (p.end + 1) (2 ^ 64 - 1) ≡ p.end + 1 = omega arith in
    puts_end (put p b) t (omega (arith, one)) ∙ (let e : min (p.end + 1) (2 ^ 64 - 1) + length t ≡ p.end + length (b ∷ t) = omega (arith, one) in e)

-- the end of a text in a buffer that had none
pub text_end : (xs t : List ℕ) → length t < 2 ^ 64 → (puts (blank xs) t).end ≡ length t
text_end xs t h = puts_end (blank xs) t (omega (arith, h)) ∙ (let e : 0 + length t ≡ length t = omega arith in e)

-- a buffer keeps its length
pub puts_length : (p : Page) (t : List ℕ) → length (puts p t).bytes ≡ length p.bytes
unfolding puts
puts_length p [] = refl
puts_length p (b ∷ t) = puts_length (put p b) t ∙ length-set p.bytes p.end b

-- a text that fits, over zeros
over : (done : List ℕ) (n : ℕ) (t : List ℕ) → length t ≤ n → length done + length t < 2 ^ 64
    → (puts (record { bytes = done ++ replicate n 0; end = length done }) t).bytes ≡ done ++ (t ++ replicate (n - length t) 0)
unfolding puts
over done n [] h s = ap (λ m. done ++ replicate m 0) (let k : n ≡ n - 0 = omega arith in k)
over done zero (b ∷ t) h s = absurd (omega arith)
over done (suc n) (b ∷ t) h s =
    let one : min (length done + 1) (2 ^ 64 - 1) ≡ length done + 1 = omega (arith, s) in
    let long : length (done ++ b ∷ []) ≡ length done + 1 = length-append done (b ∷ []) in
    let left : suc n - suc (length t) ≡ n - length t = omega arith in
    ap (λ l. (puts (record { bytes = l; end = min (length done + 1) (2 ^ 64 - 1) }) t).bytes)
    (set_at done 0 (replicate n 0) b (length done) refl ∙ sym (append_assoc done (b ∷ []) (replicate n 0)))
    ∙ ap (λ e. (puts (record { bytes = (done ++ b ∷ []) ++ replicate n 0; end = e }) t).bytes) (one ∙ sym long)
    ∙ over (done ++ b ∷ []) n t (omega arith) (omega (arith, long, s))
    ∙ append_assoc done (b ∷ []) (t ++ replicate (n - length t) 0)
    ∙ ap (λ m. done ++ b ∷ (t ++ replicate m 0)) (sym left)

-- a text that fits leaves zeros after it
pub held_fits : (n : ℕ) (t zeros bytes : List ℕ) → zeros ≡ replicate n 0 → bytes ≡ (puts (blank zeros) t).bytes → length t ≤ n → length t < 2 ^ 64 → bytes ≡ held n t
held_fits n t zeros bytes z e h s = e ∙ ap (λ l. (puts (blank l) t).bytes) z ∙ over [] n t h (omega (arith, s)) ∙ sym (cond-true (leb (length t) n) _ _ (le-leb (length t) n h))

-- where a text does not fit, all is zero
pub held_none : (n : ℕ) (t : List ℕ) → n < length t → replicate n 0 ≡ held n t
held_none n t h = sym (cond-false (leb (length t) n) _ _ (lt-leb (length t) n h))
