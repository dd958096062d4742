-- Rows that lie one after another.
use Rattle.std.proofs.Common.{◌≡◌, ℕ, zero, suc, ◌+◌, ◌*◌, ◌<◌, ◌≤◌, Bool, true, List, [], ◌∷◌, ◌++◌, length, take, drop, sym, refl, ap, ◌∙◌, suc-mul, zero-mul, arith, length-append}
use Rattle.std.proofs.Math.Seq.{take-append_seam, drop-append_seam}
use Rattle.std.proofs.lemmas.Bool.{and_parts}
use Rattle.std.proofs.lemmas.List.{append_assoc, take-take, drop-take, take_at, drop_at}
use Rattle.code.specs.Messages.{every, each, rows}

-- the rows of the part that they fill
pub rows_front : (k n : ℕ) (bs : List ℕ) → rows k n (take (n * k) bs) ≡ rows k n bs
rows_front k zero bs = refl
rows_front k (suc n) bs =
    let all : suc n * k ≡ k + n * k = omega (arith, suc-mul n k) in
    ap (λ l. l ∷ rows k n (drop k (take (suc n * k) bs))) (take-take k (suc n * k) bs (omega (arith, all)))
    ∙ ap (λ m. take k bs ∷ rows k n (drop k (take m bs))) all
    ∙ ap (λ l. take k bs ∷ rows k n l) (drop-take k (n * k) bs)
    ∙ ap (λ l. take k bs ∷ l) (rows_front k n (drop k bs))

-- a row that comes, where some are left
pub rows_next : (k n : ℕ) (row rest : List ℕ) → 1 ≤ k → length row ≡ k → length (row ++ rest) ≡ n * k
    → (m : ℕ) × (length rest ≡ m * k) × (rows k n (row ++ rest) ≡ row ∷ rows k m rest)
rows_next k zero row rest some whole all = absurd (omega (arith, whole, all, zero-mul k, length-append row rest))
rows_next k (suc m) row rest some whole all = (
  m,
  omega (arith, whole, all, suc-mul m k, length-append row rest),
  ap (λ l. l ∷ rows k m (drop k (row ++ rest))) (ap (λ i. take i (row ++ rest)) (sym whole) ∙ take-append_seam row rest)
      ∙ ap (λ l. row ∷ rows k m l) (ap (λ i. drop i (row ++ rest)) (sym whole) ∙ drop-append_seam row rest),
)

-- no row comes
pub rows_none : (k n : ℕ) (rest : List ℕ) → length rest < k → length rest ≡ n * k → rows k n rest ≡ []
rows_none k zero rest h e = refl
rows_none k (suc m) rest h e = absurd (omega (arith, suc-mul m k, e))

-- rows that were laid out, with something after them
pub rows_laid : (k : ℕ) (L : List (List ℕ)) (rest : List ℕ) (h : List ℕ → Bool) → ((x : List ℕ) → h x ≡ true → length x ≡ k) → every h L ≡ true → rows k (length L) (each (λ x. x) L ++ rest) ≡ L
rows_laid k [] rest h lk e = refl
rows_laid k (x ∷ L) rest h lk e =
    let p = and_parts (h x) (every h L) e in
    let joined = append_assoc x (each (λ x. x) L) rest in
    ap (λ l. take k l ∷ rows k (length L) (drop k l)) joined
    ∙ ap (λ l. l ∷ rows k (length L) (drop k (x ++ (each (λ x. x) L ++ rest)))) (take_at x (each (λ x. x) L ++ rest) k (lk x p.0))
    ∙ ap (λ l. x ∷ rows k (length L) l) (drop_at x (each (λ x. x) L ++ rest) k (lk x p.0))
    ∙ ap (λ l. x ∷ l) (rows_laid k L rest h lk p.1)
