-- Messages as rows of letters, and the sets of their numbers.
use Rattle.std.specs.Prelude.{◌≡◌, ℕ, zero, suc, ◌+◌, ◌*◌, ◌/◌, ◌%◌, ◌^◌, ◌<◌, ◌≤◌, Bool, true, false, cond, not, ◌||◌, ltb, List, [], ◌∷◌, ◌++◌, map, length, filter, ◌==◌, nat_eq, nat_lt, refl}
use Rattle.std.proofs.Common.{sym, ap, ◌∙◌, subst, ⊎_elim, pow-suc, mod-lt, mul-le-mul_right, suc-mul, one-mul, mul-one, mul_assoc, mul_comm, arith}
use Rattle.std.proofs.Math.Path.{fun_ext}
use Rattle.std.proofs.Math.Nat.{pow-zero}
use Rattle.std.proofs.lemmas.Nat.{div_below, div-add-mod'}
use Rattle.std.proofs.lemmas.Bool.{and_parts, and_from, eq-eqb, eqb-true, lt-ltb, ltb-true, or_left, or_right, cases_Bool, not_from_false, or_cases, true≢false}
use Rattle.sheet.specs.Letters.{Letters, none}
use Rattle.code.specs.Messages.{every, is_row, number_from, number, digits}
use Rattle.code.specs.Meaning.{only, below}
use Rattle.code.proofs.Numbering.{digits_length}
use Rattle.code.proofs.Rows.{every_append}
use Rattle.concatenated.specs.Lifted.{numbers}

pub map_every : {X Y : Type 0} (h : X → Bool) (f g : X → Y) → ((x : X) → h x ≡ true → f x ≡ g x) → (xs : List X) → every h xs ≡ true → map f xs ≡ map g xs
map_every h f g k [] e = refl
map_every h f g k (x ∷ xs) e = let p = and_parts (h x) (every h xs) e in ap (λ y. y ∷ map f xs) (k x p.0) ∙ ap (λ ys. g x ∷ ys) (map_every h f g k xs p.1)

kept_cons : {X : Type 0} (f : X → Bool) (x : X) (xs : List X) → filter f (x ∷ xs) ≡ cond (f x) (x ∷ filter f xs) (filter f xs)
kept_cons f x xs = refl

pub kept_every : {X : Type 0} (h f g : X → Bool) → ((x : X) → h x ≡ true → f x ≡ g x) → (xs : List X) → every h xs ≡ true → filter f xs ≡ filter g xs
kept_every h f g k [] e = refl
kept_every h f g k (x ∷ xs) e =
    let p = and_parts (h x) (every h xs) e in
    ap (λ b. cond b (x ∷ filter f xs) (filter f xs)) (k x p.0) ∙ ap (λ ys. cond (g x) (x ∷ ys) ys) (kept_every h f g k xs p.1)

-- digits
digits_below : (p k v : ℕ) → 1 ≤ p → every (λ l. ltb l p) (digits p k v) ≡ true
unfolding digits
digits_below p zero v h = refl
digits_below p (suc k) v h = every_append _ (digits p k (v / p)) ((v % p) ∷ []) (digits_below p k (v / p) h) (and_from _ true (lt-ltb (v % p) p (mod-lt v h)) refl)

pub digits_row : (p k v : ℕ) → 1 ≤ p → is_row k p (digits p k v) ≡ true
digits_row p k v h = and_from _ _ (eq-eqb _ k (digits_length p k v)) (digits_below p k v h)

number_push : (p a : ℕ) (xs : List ℕ) (y : ℕ) → number_from p a (xs ++ y ∷ []) ≡ number_from p a xs * p + y
number_push p a [] y = refl
number_push p a (x ∷ xs) y = number_push p (a * p + x) xs y

pub number_digits : (p k v : ℕ) → 1 ≤ p → v < p ^ k → number p (digits p k v) ≡ v
unfolding digits
number_digits p zero v h lt = let z = pow-zero p in let e : v ≡ 0 = omega arith in sym e
number_digits p (suc k) v h lt =
    number_push p 0 (digits p k (v / p)) (v % p)
    ∙ ap (λ z. z * p + v % p) (number_digits p k (v / p) h (div_below v p (p ^ k) h (subst (λ z. v < z) (pow-suc p k) lt)))
    ∙ div-add-mod' v p

-- the number of a row is below p ^ k
number_below : (p a b : ℕ) (xs : List ℕ) → every (λ l. ltb l p) xs ≡ true → a < b → number_from p a xs < b * p ^ length xs
number_below p a b [] e h = subst (λ z. a < z) (sym (ap (λ z. b * z) (pow-zero p) ∙ mul-one b)) h
number_below p a b (x ∷ xs) e h =
    let q = and_parts (nat_lt x p) (every (λ l. ltb l p) xs) e in
    let lx = ltb-true x p q.0 in
    let up : a * p + p ≤ b * p = (let g : suc a * p ≤ b * p = mul-le-mul_right p h in subst (λ z. z ≤ b * p) (suc-mul a p) g) in
    let r = number_below p (a * p + x) (b * p) xs q.1 (omega arith) in
    subst (λ z. number_from p (a * p + x) xs < z) (mul_assoc b p (p ^ length xs) ∙ ap (λ z. b * z) (mul_comm p (p ^ length xs) ∙ sym (pow-suc p (length xs)))) r

pub number_row : (p k : ℕ) (x : List ℕ) → is_row k p x ≡ true → number p x < p ^ k
number_row p k x e =
    let q = and_parts (length x == k) (every (λ l. ltb l p) x) e in
    let r = number_below p 0 1 x q.1 (omega arith) in
    subst (λ z. number p x < z) (one-mul (p ^ k)) (subst (λ z. number p x < 1 * p ^ z) (eqb-true (length x) k q.0) r)

-- the numbers of rows are below p ^ k
below_all : (q n : ℕ) (s : Letters) → ((l : ℕ) → s l ≡ true → l < q) → below q n s ≡ true
unfolding below
below_all q zero s h = refl
below_all q (suc l) s h = and_from _ _ (⊎_elim (λ e. or_right (not (s l)) (nat_lt l q) (lt-ltb l q (h l e))) (λ e. or_left (not (s l)) (nat_lt l q) (not_from_false (s l) e)) (cases_Bool (s l))) (below_all q l s h)

numbers_below : (p k : ℕ) (L : List (List ℕ)) → every (is_row k p) L ≡ true → (l : ℕ) → numbers p L l ≡ true → l < p ^ k
numbers_below p k [] e l h = absurd (true≢false (sym h))
numbers_below p k (x ∷ L) e l h =
    let q = and_parts (is_row k p x) (every (is_row k p) L) e in
    ⊎_elim (λ i. subst (λ z. z < p ^ k) (sym (eqb-true l (number p x) i)) (number_row p k x q.0)) (numbers_below p k L q.1 l) (or_cases (l == number p x) (numbers p L l) h)

pub numbers_fit : (p k n : ℕ) (L : List (List ℕ)) → every (is_row k p) L ≡ true → below (p ^ k) n (numbers p L) ≡ true
numbers_fit p k n L e = below_all (p ^ k) n (numbers p L) (numbers_below p k L e)

pub none_fit : (q n : ℕ) → below q n none ≡ true
none_fit q n = below_all q n none (λ l h. absurd (true≢false (sym h)))

or_none : (b : Bool) → (b || false) ≡ b
or_none true = refl
or_none false = refl

pub numbers_one : (p : ℕ) (x : List ℕ) (v : ℕ) → number p x ≡ v → numbers p (x ∷ []) ≡ only v
numbers_one p x v e = fun_ext (λ u. or_none (u == number p x) ∙ ap (nat_eq u) e)
