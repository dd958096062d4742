-- One turn of `spell`, and of the pile's `encode`.
use Rattle.std.proofs.Common.{◌≡◌, ℕ, zero, suc, ◌+◌, ◌-◌, ◌/◌, ◌%◌, ◌<◌, ◌≤◌, List, [], ◌∷◌, ◌++◌, length, drop, set, sym, ap, ◌∙◌, arith}
use Rattle.std.proofs.lemmas.List.{append_assoc, drop-set}
use Rattle.code.specs.Messages.{digits}

pub spell_more : (p i rest : ℕ) (xs to : List ℕ) → 0 < i → i ≤ length xs → digits p i rest ++ drop i xs ≡ to
    → digits p (i - 1) (rest / p) ++ drop (i - 1) (set xs (i - 1) (rest % p)) ≡ to
unfolding digits
spell_more p zero rest xs to h l e = absurd (omega arith)
spell_more p (suc i) rest xs to h l e =
    let back : suc i - 1 ≡ i = omega arith in
    let on : i + 1 ≡ suc i = omega arith in
    ap (λ z. digits p z (rest / p) ++ drop z (set xs z (rest % p))) back
    ∙ ap (λ z. digits p i (rest / p) ++ z) (drop-set xs i (rest % p) (omega arith) ∙ ap (λ z. (rest % p) ∷ drop z xs) on)
    ∙ sym (append_assoc (digits p i (rest / p)) ((rest % p) ∷ []) (drop (suc i) xs))
    ∙ e

pub spell_all : (p i rest : ℕ) (xs to : List ℕ) → i ≡ 0 → digits p i rest ++ drop i xs ≡ to → xs ≡ to
unfolding digits
spell_all p i rest xs to z e = ap (λ y. digits p y rest ++ drop y xs) (sym z) ∙ e
