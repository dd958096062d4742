-- The messages rise, and each stands once.
use Rattle.std.proofs.Common.{◌≡◌, ℕ, zero, suc, ◌+◌, ◌<◌, ◌≤◌, Bool, true, false, cond, ◌&&◌, eqb, ltb, leb, ◌⊎◌, List, [], ◌∷◌, ◌++◌, map, length, filter, sym, refl, ap, ◌∙◌, subst, inl, inr, ⊎_elim, arith}
use Rattle.std.proofs.lemmas.Bool.{and_parts, and_from, and_left, and_right, or_left, or_right, eq-eqb, ne_eqb, eqb-true, lt-ltb, le-ltb, le-leb, leb-true, cases_Bool, cases_eq, cases_lt, true≢false}
use Rattle.code.specs.Meaning.{Meaning, listing}
use Rattle.sheet.specs.Letters.{Sheet}
use Rattle.code.specs.Messages.{every, is_row, each, span, messages}
use Rattle.code.proofs.Rows.{every_append, every_kept}
use Rattle.code.specs.Rising.{less, rising, same, occurs}

every_weak : {X : Type 0} (f g : X → Bool) → ((x : X) → f x ≡ true → g x ≡ true) → (xs : List X) → every f xs ≡ true → every g xs ≡ true
every_weak f g h [] e = refl
every_weak f g h (x ∷ xs) e = let p = and_parts (f x) (every f xs) e in and_from (g x) _ (h x p.0) (every_weak f g h xs p.1)

every_map_all : {X Y : Type 0} (f : Y → Bool) (g : X → Y) → ((x : X) → f (g x) ≡ true) → (xs : List X) → every f (map g xs) ≡ true
every_map_all f g h [] = refl
every_map_all f g h (x ∷ xs) = and_from (f (g x)) _ (h x) (every_map_all f g h xs)

-- rising
rising_append : (xs ys : List (List ℕ)) → rising xs ≡ true → rising ys ≡ true → every (λ x. every (less x) ys) xs ≡ true → rising (xs ++ ys) ≡ true
rising_append [] ys hx hy h = hy
rising_append (x ∷ xs) ys hx hy h =
    let p = and_parts (every (less x) xs) (rising xs) hx in
    let q = and_parts (every (less x) ys) (every (λ z. every (less z) ys) xs) h in
    and_from _ _ (every_append (less x) xs ys p.0 q.0) (rising_append xs ys p.1 hy q.1)

less_cons : (a : ℕ) (x y : List ℕ) → less x y ≡ true → less (a ∷ x) (a ∷ y) ≡ true
less_cons a x y h = or_right (ltb a a) _ (and_from _ _ (eq-eqb a a refl) h)

every_cons : (a : ℕ) (x : List ℕ) (L : List (List ℕ)) → every (less x) L ≡ true → every (less (a ∷ x)) (map (λ m. a ∷ m) L) ≡ true
every_cons a x [] h = refl
every_cons a x (y ∷ L) h = let p = and_parts (less x y) (every (less x) L) h in and_from _ _ (less_cons a x y p.0) (every_cons a x L p.1)

rising_cons : (a : ℕ) (L : List (List ℕ)) → rising L ≡ true → rising (map (λ m. a ∷ m) L) ≡ true
rising_cons a [] h = refl
rising_cons a (x ∷ L) h = let p = and_parts (every (less x) L) (rising L) h in and_from _ _ (every_cons a x L p.0) (rising_cons a L p.1)

-- the first letter is at least s
from_letter : ℕ → List ℕ → Bool
from_letter s [] = false
from_letter s (x ∷ xs) = leb s x

blocks : List (List ℕ) → ℕ → ℕ → List (List ℕ)
blocks L s i = each (λ a. map (λ m. a ∷ m) L) (span s i)

blocks_from : (L : List (List ℕ)) (low s i : ℕ) → low ≤ s → every (from_letter low) (blocks L s i) ≡ true
unfolding blocks span from_letter
blocks_from L low s zero h = refl
blocks_from L low s (suc i) h = every_append (from_letter low) (map (λ m. s ∷ m) L) (each (λ a. map (λ m. a ∷ m) L) (span (suc s) i)) (every_map_all (from_letter low) (λ m. s ∷ m) (λ m. le-leb low s h) L) (blocks_from L low (suc s) i (omega arith))

less_from : (a : ℕ) (m y : List ℕ) → from_letter (suc a) y ≡ true → less (a ∷ m) y ≡ true
unfolding from_letter
less_from a m [] h = absurd (true≢false (sym h))
less_from a m (y ∷ ys) h = or_left (ltb a y) _ (lt-ltb a y (leb-true (suc a) y h))

blocks_rise : (L : List (List ℕ)) → rising L ≡ true → (s i : ℕ) → rising (blocks L s i) ≡ true
unfolding blocks span
blocks_rise L h s zero = refl
blocks_rise L h s (suc i) =
    rising_append (map (λ m. s ∷ m) L) (each (λ a. map (λ m. a ∷ m) L) (span (suc s) i)) (rising_cons s L h) (blocks_rise L h (suc s) i)
    (every_map_all (λ x. every (less x) (each (λ a. map (λ m. a ∷ m) L) (span (suc s) i))) (λ m. s ∷ m)
    (λ m. every_weak (from_letter (suc s)) (less (s ∷ m)) (less_from s m) (each (λ a. map (λ m. a ∷ m) L) (span (suc s) i)) (blocks_from L (suc s) (suc s) i (omega arith))) L)

pub messages_rise : (p k : ℕ) → rising (messages p k) ≡ true
unfolding messages blocks
messages_rise p zero = refl
messages_rise p (suc k) = blocks_rise (messages p k) (messages_rise p k) 0 p

cond_rise : (b : Bool) (x : List ℕ) (L : List (List ℕ)) → every (less x) L ≡ true → rising L ≡ true → rising (cond b (x ∷ L) L) ≡ true
cond_rise true x L e h = and_from _ _ e h
cond_rise false x L e h = h

kept_rise : (f : List ℕ → Bool) (L : List (List ℕ)) → rising L ≡ true → rising (filter f L) ≡ true
kept_rise f [] h = refl
kept_rise f (x ∷ L) h = let p = and_parts (every (less x) L) (rising L) h in cond_rise (f x) x (filter f L) (every_kept (less x) f L p.0) (kept_rise f L p.1)

-- how often
occurs_append : (x : List ℕ) (xs ys : List (List ℕ)) → occurs x (xs ++ ys) ≡ occurs x xs + occurs x ys
occurs_append x [] ys = let z : occurs x ys ≡ 0 + occurs x ys = omega arith in z
occurs_append x (y ∷ xs) ys = let r = occurs_append x xs ys in let z : cond (same x y) 1 0 + occurs x (xs ++ ys) ≡ cond (same x y) 1 0 + occurs x xs + occurs x ys = omega arith in z

no_empty : (a : ℕ) (L : List (List ℕ)) → occurs [] (map (λ m. a ∷ m) L) ≡ 0
no_empty a [] = refl
no_empty a (x ∷ L) = let r = no_empty a L in let z : 0 + occurs [] (map (λ m. a ∷ m) L) ≡ 0 = omega arith in z

no_empty_blocks : (L : List (List ℕ)) (s i : ℕ) → occurs [] (blocks L s i) ≡ 0
unfolding blocks span
no_empty_blocks L s zero = refl
no_empty_blocks L s (suc i) = let r = no_empty_blocks L (suc s) i in let q = no_empty s L in occurs_append [] (map (λ m. s ∷ m) L) _ ∙ (let z : occurs [] (map (λ m. s ∷ m) L) + occurs [] (each (λ a. map (λ m. a ∷ m) L) (span (suc s) i)) ≡ 0 = omega arith in z)

occurs_here : (b : ℕ) (x : List ℕ) (L : List (List ℕ)) → occurs (b ∷ x) (map (λ m. b ∷ m) L) ≡ occurs x L
occurs_here b x [] = refl
occurs_here b x (y ∷ L) = ap (λ z. cond (z && same x y) 1 0 + occurs (b ∷ x) (map (λ m. b ∷ m) L)) (eq-eqb b b refl) ∙ ap (λ z. cond (same x y) 1 0 + z) (occurs_here b x L)

occurs_there : (b a : ℕ) (x : List ℕ) (L : List (List ℕ)) → (b ≡ a → ⊥) → occurs (b ∷ x) (map (λ m. a ∷ m) L) ≡ 0
occurs_there b a x [] ne = refl
occurs_there b a x (y ∷ L) ne = ap (λ z. cond (z && same x y) 1 0 + occurs (b ∷ x) (map (λ m. a ∷ m) L)) (ne_eqb b a ne) ∙ (let r = occurs_there b a x L ne in let z : 0 + occurs (b ∷ x) (map (λ m. a ∷ m) L) ≡ 0 = omega arith in z)

-- before its block there is none
occurs_before : (b : ℕ) (x : List ℕ) (L : List (List ℕ)) (s i : ℕ) → (b < s) ⊎ (s + i ≤ b) → occurs (b ∷ x) (blocks L s i) ≡ 0
unfolding blocks span
occurs_before b x L s zero h = refl
occurs_before b x L s (suc i) h =
    let q = occurs_there b s x L (λ e. ⊎_elim (λ u. omega arith) (λ u. omega arith) h) in
    let r = occurs_before b x L (suc s) i (⊎_elim (λ u. inl (let z : b < suc s = omega arith in z)) (λ u. inr (let z : suc s + i ≤ b = omega arith in z)) h) in
    occurs_append (b ∷ x) (map (λ m. s ∷ m) L) _ ∙ (let z : occurs (b ∷ x) (map (λ m. s ∷ m) L) + occurs (b ∷ x) (each (λ a. map (λ m. a ∷ m) L) (span (suc s) i)) ≡ 0 = omega arith in z)

occurs_block : (b : ℕ) (x : List ℕ) (L : List (List ℕ)) (s i : ℕ) → s ≤ b → b < s + i → occurs (b ∷ x) (blocks L s i) ≡ occurs x L
unfolding blocks span
occurs_block b x L s zero lo hi = absurd (omega arith)
occurs_block b x L s (suc i) lo hi =
    occurs_append (b ∷ x) (map (λ m. s ∷ m) L) _ ∙
    ⊎_elim
    (λ e. let q : occurs (b ∷ x) (map (λ m. s ∷ m) L) ≡ occurs x L = subst (λ a. occurs (b ∷ x) (map (λ m. a ∷ m) L) ≡ occurs x L) e (occurs_here b x L) in
    let r = occurs_before b x L (suc s) i (inl (omega arith)) in
    let z : occurs (b ∷ x) (map (λ m. s ∷ m) L) + occurs (b ∷ x) (each (λ a. map (λ m. a ∷ m) L) (span (suc s) i)) ≡ occurs x L = omega arith in z)
    (λ ne. let q = occurs_there b s x L ne in
    let r = occurs_block b x L (suc s) i (let z : suc s ≤ b = omega arith in z) (omega arith) in
    let z : occurs (b ∷ x) (map (λ m. s ∷ m) L) + occurs (b ∷ x) (each (λ a. map (λ m. a ∷ m) L) (span (suc s) i)) ≡ occurs x L = omega arith in z)
    (cases_eq b s)

row_cons : (n k b p : ℕ) (r : Bool) → b < p → (eqb n k && r) ≡ (eqb (suc n) (suc k) && (ltb b p && r))
row_cons n k b p r h =
    ap (λ z. z && r) (⊎_elim (λ e. eq-eqb n k e ∙ sym (eq-eqb (suc n) (suc k) (ap suc e))) (λ ne. ne_eqb n k ne ∙ sym (ne_eqb (suc n) (suc k) (λ e. ne (let z : n ≡ k = omega arith in z)))) (cases_eq n k))
    ∙ ap (λ z. eqb (suc n) (suc k) && (z && r)) (sym (lt-ltb b p h))

row_none : (n k b p : ℕ) (r : Bool) → p ≤ b → (eqb n k && (ltb b p && r)) ≡ false
row_none n k b p r h = and_right (eqb n k) _ (and_left (ltb b p) r (le-ltb b p h))

pub messages_once : (p k : ℕ) (x : List ℕ) → occurs x (messages p k) ≡ cond (is_row k p x) 1 0
unfolding messages blocks
messages_once p zero [] = refl
messages_once p zero (b ∷ x) = sym (ap (λ z. cond z 1 0) (and_left (eqb (suc (length x)) 0) _ (ne_eqb (suc (length x)) 0 (λ e. omega arith))))
messages_once p (suc k) [] = no_empty_blocks (messages p k) 0 p ∙ sym (ap (λ z. cond z 1 0) (and_left (eqb 0 (suc k)) _ (ne_eqb 0 (suc k) (λ e. omega arith))))
messages_once p (suc k) (b ∷ x) =
    ⊎_elim
    (λ lt. occurs_block b x (messages p k) 0 p (omega arith) (omega arith) ∙ messages_once p k x ∙ ap (λ z. cond z 1 0) (row_cons (length x) k b p (every (λ l. ltb l p) x) lt))
    (λ le. occurs_before b x (messages p k) 0 p (inr (omega arith)) ∙ sym (ap (λ z. cond z 1 0) (row_none (suc (length x)) (suc k) b p (every (λ l. ltb l p) x) le)))
    (cases_lt b p)

same_is : (x y : List ℕ) → same x y ≡ true → x ≡ y
same_is [] [] h = refl
same_is [] (y ∷ ys) h = absurd (true≢false (sym h))
same_is (x ∷ xs) [] h = absurd (true≢false (sym h))
same_is (x ∷ xs) (y ∷ ys) h = let p = and_parts (eqb x y) (same xs ys) h in ap (λ z. z ∷ xs) (eqb-true x y p.0) ∙ ap (λ z. y ∷ z) (same_is xs ys p.1)

cond_out : (c : Bool) (a n : ℕ) → a ≡ 0 → cond c n 0 ≡ cond c (a + n) 0
cond_out true a n e = omega arith
cond_out false a n e = refl

keep_yes : (x y : List ℕ) (L : List (List ℕ)) (b : Bool) → b ≡ true → occurs x (cond b (y ∷ L) L) ≡ cond (same x y) 1 0 + occurs x L
keep_yes x y L b e = ap (λ z. occurs x (cond z (y ∷ L) L)) e

keep_no : (x y : List ℕ) (L : List (List ℕ)) (b : Bool) → b ≡ false → occurs x (cond b (y ∷ L) L) ≡ occurs x L
keep_no x y L b e = ap (λ z. occurs x (cond z (y ∷ L) L)) e

other : (x y : List ℕ) (L : List (List ℕ)) (b : Bool) → same x y ≡ false → occurs x (cond b (y ∷ L) L) ≡ occurs x L
other x y L true e = ap (λ z. cond z 1 0 + occurs x L) e ∙ (let z : 0 + occurs x L ≡ occurs x L = omega arith in z)
other x y L false e = refl

none : (b : Bool) → ◌≡◌ {A = ℕ} 0 (cond b 0 0)
none true = refl
none false = refl

kept_occur : (f : List ℕ → Bool) (x : List ℕ) (L : List (List ℕ)) → occurs x (filter f L) ≡ cond (f x) (occurs x L) 0
kept_occur f x [] = none (f x)
kept_occur f x (y ∷ L) =
    ⊎_elim
    (λ e.
    let exy = same_is x y e in
    ⊎_elim
    (λ t. keep_yes x y (filter f L) (f y) (ap f (sym exy) ∙ t) ∙ ap (λ z. cond (same x y) 1 0 + z) (kept_occur f x L ∙ ap (λ z. cond z (occurs x L) 0) t) ∙ sym (ap (λ z. cond z (cond (same x y) 1 0 + occurs x L) 0) t))
    (λ n. keep_no x y (filter f L) (f y) (ap f (sym exy) ∙ n) ∙ kept_occur f x L ∙ ap (λ z. cond z (occurs x L) 0) n ∙ sym (ap (λ z. cond z (cond (same x y) 1 0 + occurs x L) 0) n))
    (cases_Bool (f x)))
    (λ e. other x y (filter f L) (f y) e ∙ kept_occur f x L ∙ cond_out (f x) (cond (same x y) 1 0) (occurs x L) (ap (λ z. cond z 1 0) e))
    (cases_Bool (same x y))

both : (a b : Bool) → ◌≡◌ {A = ℕ} (cond b (cond a 1 0) 0) (cond (a && b) 1 0)
both true true = refl
both true false = refl
both false true = refl
both false false = refl

pub listing_rises : (m : Meaning) (s : Sheet) (t : ℕ) → rising (listing m s t) ≡ true
unfolding listing
listing_rises m s t = kept_rise (λ x. leb t (m.score s x)) (messages m.p m.k) (messages_rise m.p m.k)

pub listing_once : (m : Meaning) (s : Sheet) (t : ℕ) (x : List ℕ) → occurs x (listing m s t) ≡ cond (is_row m.k m.p x && leb t (m.score s x)) 1 0
unfolding listing
listing_once m s t x =
    kept_occur (λ x. leb t (m.score s x)) x (messages m.p m.k)
    ∙ ap (λ z. cond (leb t (m.score s x)) z 0) (messages_once m.p m.k x)
    ∙ both (is_row m.k m.p x) (leb t (m.score s x))
