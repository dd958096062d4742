-- From the messages of an inner list to their numbers.
use Rattle.std.proofs.Common.{◌≡◌, ℕ, ◌^◌, ◌≤◌, Bool, true, false, ◌||◌, eqb, List, [], ◌∷◌, ltb, refl, arith}
use mathlib.Core.Path.{fun_ext}
use Rattle.std.proofs.lemmas.Bool.{and_parts, and_from, lt-ltb}
use Rattle.sheet.specs.Letters.{Letters, join, union}
use Rattle.code.specs.Messages.{every, is_row, number}
use Rattle.concatenated.specs.Lifted.{numbers}
use Rattle.concatenated.specs.Rows.{number_row}

or_swap : (a b c : Bool) → ((b || a) || c) ≡ (a || (b || c))
or_swap true true c = refl
or_swap true false c = refl
or_swap false true c = refl
or_swap false false c = refl

-- a number that joins what is gathered is no more among those that are left
pub numbers_next : (p : ℕ) (s : Letters) (x : List ℕ) (L : List (List ℕ)) → union (join (number p x) s) (numbers p L) ≡ union s (numbers p (x ∷ L))
numbers_next p s x L = fun_ext (λ v. or_swap (s v) (eqb v (number p x)) (numbers p L v))

pub none_left : (p : ℕ) (s : Letters) → union s (numbers p []) ≡ s
none_left p s = fun_ext (λ v. by (s v))
  where
    by : (b : Bool) → (b || false) ≡ b
    by true = refl
    by false = refl

-- the numbers of rows are below p ^ k
pub numbers_fit : (p k : ℕ) (L : List (List ℕ)) → p ^ k ≤ 256 → every (is_row k p) L ≡ true → every (λ m. ltb (number p m) 256) L ≡ true
numbers_fit p k [] h e = refl
numbers_fit p k (x ∷ L) h e =
    let r = and_parts (is_row k p x) (every (is_row k p) L) e in
    let n = number_row p k x r.0 in
    and_from _ _ (lt-ltb (number p x) 256 (omega arith)) (numbers_fit p k L h r.1)
