-- Rows of letters, and how long a list is.
use Rattle.std.proofs.Common.{◌≡◌, ℕ, zero, suc, ◌+◌, ◌-◌, ◌*◌, ◌≤◌, Bool, true, false, cond, ◌&&◌, eqb, ltb, leb, List, [], ◌∷◌, ◌++◌, map, length, take, drop, Ok, Err, filter, Result, sym, refl, ap, ◌∙◌, subst, ⊎_elim, suc-mul, mul_comm, arith}
use Rattle.std.proofs.lemmas.List.{length-append, length-replicate}
use Rattle.std.proofs.lemmas.List.Sums.{length-filter, count_by-le-length}
use Rattle.std.proofs.lemmas.Bool.{and_parts, and_from, eq-eqb, eqb-true, lt-ltb, leb-true, cases_Bool, cond-false, cond-true}
use Rattle.fault.specs.declared.Fault.{Fault}
use Rattle.fault.specs.declared.Fault.TheVariants.{Agreement, Sheet as BadSheet, Short}
use Rattle.code.specs.Meaning.{Meaning, Verdict, within, beyond, is_sheet, listing}
use Rattle.sheet.specs.Letters.{Sheet}
use Rattle.code.specs.Messages.{every, is_row, each, span, messages}
use Rattle.code.specs.Answers.{listed, shown, laid, reached}

pub every_append : {X : Type 0} (f : X → Bool) (xs ys : List X) → every f xs ≡ true → every f ys ≡ true → every f (xs ++ ys) ≡ true
every_append f [] ys hx hy = hy
every_append f (x ∷ xs) ys hx hy = let p = and_parts (f x) (every f xs) hx in and_from (f x) _ p.0 (every_append f xs ys p.1 hy)

pub every_map : {X Y : Type 0} (f : Y → Bool) (h : X → Bool) (g : X → Y) → ((x : X) → h x ≡ true → f (g x) ≡ true) → (xs : List X) → every h xs ≡ true → every f (map g xs) ≡ true
every_map f h g k [] e = refl
every_map f h g k (x ∷ xs) e = let p = and_parts (h x) (every h xs) e in and_from (f (g x)) _ (k x p.0) (every_map f h g k xs p.1)

pub every_each : {X Y : Type 0} (f : Y → Bool) (h : X → Bool) (g : X → List Y) → ((x : X) → h x ≡ true → every f (g x) ≡ true) → (xs : List X) → every h xs ≡ true → every f (each g xs) ≡ true
every_each f h g k [] e = refl
every_each f h g k (x ∷ xs) e = let p = and_parts (h x) (every h xs) e in every_append f (g x) (each g xs) (k x p.0) (every_each f h g k xs p.1)

pub every_take : {X : Type 0} (f : X → Bool) (n : ℕ) (xs : List X) → every f xs ≡ true → every f (take n xs) ≡ true
every_take f zero xs e = refl
every_take f (suc n) [] e = refl
every_take f (suc n) (x ∷ xs) e = let p = and_parts (f x) (every f xs) e in and_from (f x) _ p.0 (every_take f n xs p.1)

pub every_drop : {X : Type 0} (f : X → Bool) (n : ℕ) (xs : List X) → every f xs ≡ true → every f (drop n xs) ≡ true
every_drop f zero xs e = e
every_drop f (suc n) [] e = refl
every_drop f (suc n) (x ∷ xs) e = every_drop f n xs (and_parts (f x) (every f xs) e).1

cond_every : {X : Type 0} (h : X → Bool) (b : Bool) (xs ys : List X) → every h xs ≡ true → every h ys ≡ true → every h (cond b xs ys) ≡ true
cond_every h true xs ys a b = a
cond_every h false xs ys a b = b

pub every_kept : {X : Type 0} (h f : X → Bool) (xs : List X) → every h xs ≡ true → every h (filter f xs) ≡ true
every_kept h f [] e = refl
every_kept h f (x ∷ xs) e =
    let p = and_parts (h x) (every h xs) e in
    let r = every_kept h f xs p.1 in
    cond_every h (f x) (x ∷ filter f xs) (filter f xs) (and_from (h x) _ p.0 r) r

-- messages are rows
span_below : (p a i : ℕ) → a + i ≤ p → every (λ l. ltb l p) (span a i) ≡ true
unfolding span
span_below p a zero h = refl
span_below p a (suc i) h = and_from _ _ (lt-ltb a p (omega arith)) (span_below p (suc a) i (omega arith))

pub messages_rows : (p k : ℕ) → every (is_row k p) (messages p k) ≡ true
unfolding messages
messages_rows p zero = refl
messages_rows p (suc k) =
    every_each (is_row (suc k) p) (λ l. ltb l p) (λ a. map (λ m. a ∷ m) (messages p k))
    (λ a la. every_map (is_row (suc k) p) (is_row k p) (λ m. a ∷ m)
    (λ x ex. let q = and_parts (eqb (length x) k) (every (λ l. ltb l p) x) ex in and_from _ _ (eq-eqb (suc (length x)) (suc k) (ap suc (eqb-true (length x) k q.0))) (and_from _ _ la q.1))
    (messages p k) (messages_rows p k))
    (span 0 p) (span_below p 0 p (omega arith))

-- lengths
pub kept_length : {X : Type 0} (f : X → Bool) (xs : List X) → length (filter f xs) ≤ length xs
kept_length f xs = let e = length-filter f xs in let h = count_by-le-length f xs in omega arith

pub each_rows_length : (k p : ℕ) (L : List (List ℕ)) → every (is_row k p) L ≡ true → length (each (λ x. x) L) ≡ length L * k
each_rows_length k p [] e = let z : 0 ≡ 0 * k = omega arith in z
each_rows_length k p (x ∷ L) e =
    let q = and_parts (is_row k p x) (every (is_row k p) L) e in
    let lx = eqb-true (length x) k (and_parts (eqb (length x) k) _ q.0).0 in
    let r = each_rows_length k p L q.1 in
    let s = suc-mul (length L) k in
    length-append x (each (λ x. x) L) ∙ (let w : length x + length (each (λ x. x) L) ≡ suc (length L) * k = omega arith in w)

pub listing_rows : (m : Meaning) (s : Sheet) (t : ℕ) → every (is_row m.k m.p) (listing m s t) ≡ true
unfolding listing
listing_rows m s t = every_kept (is_row m.k m.p) (λ x. leb t (m.score s x)) (messages m.p m.k) (messages_rows m.p m.k)

-- an answered list fits its buffer
FitsIf : ℕ → List (List ℕ) → ℕ → Result ℕ Fault → Type 0
FitsIf k L len (Ok c) = k * length L ≤ len
FitsIf k L len (Err f) = Unit {0}

reached_fits : (k len : ℕ) (L : List (List ℕ)) (v : Verdict) → FitsIf k L len (reached k len L v)
unfolding FitsIf
reached_fits k len L within =
    ⊎_elim
    (λ e. subst (FitsIf k L len) (sym (cond-true (leb (k * length L) len) (Ok (length L)) (Err Short) e)) (leb-true (k * length L) len e))
    (λ e. subst (FitsIf k L len) (sym (cond-false (leb (k * length L) len) (Ok (length L)) (Err Short) e)) tt)
    (cases_Bool (leb (k * length L) len))
reached_fits k len L (beyond level place) = tt

cond_fits : (k len : ℕ) (L : List (List ℕ)) (b : Bool) (r : Result ℕ Fault) (f : Fault) → FitsIf k L len r → FitsIf k L len (cond b r (Err f))
unfolding FitsIf
cond_fits k len L true r f h = h
cond_fits k len L false r f h = tt

laid_length : (k p len : ℕ) (L : List (List ℕ)) (r : Result ℕ Fault) → every (is_row k p) L ≡ true → FitsIf k L len r → length (laid len L r) ≡ len
unfolding FitsIf
laid_length k p len L (Ok c) e h =
    length-append (each (λ x. x) L) _ ∙ ap (λ z. length (each (λ x. x) L) + z) (length-replicate (len - length (each (λ x. x) L)) 0)
    ∙ (let q = each_rows_length k p L e in let m = mul_comm k (length L) in let z : length (each (λ x. x) L) + (len - length (each (λ x. x) L)) ≡ len = omega arith in z)
laid_length k p len L (Err f) e h = length-replicate len 0

-- a list leaves as many bytes as it was lent
pub shown_length : (m : Meaning) (s : Sheet) (t len : ℕ) → length (shown m s t len) ≡ len
shown_length m s t len =
    laid_length m.k m.p len (listing m s t) (listed m s t len) (listing_rows m s t)
    (cond_fits m.k len (listing m s t) (is_sheet m s) _ BadSheet (cond_fits m.k len (listing m s t) (leb 1 t && leb t m.top) _ Agreement (reached_fits m.k len (listing m s t) (m.reach s t))))
