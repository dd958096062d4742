-- A filter of the messages that passes one message alone.
use Rattle.std.proofs.Common.{◌≡◌, ℕ, zero, suc, ◌+◌, ◌<◌, ◌≤◌, Bool, true, false, cond, eqb, ltb, List, [], ◌∷◌, ◌++◌, map, length, filter, refl, ap, ◌∙◌, ap₂, ⊎_elim, arith}
use Rattle.std.proofs.lemmas.List.{append-nil}
use Rattle.std.proofs.lemmas.List.Elements.{filter-append}
use Rattle.std.proofs.lemmas.Bool.{and_parts, and_from, eqb-true, eq-eqb, ltb-true, lt-ltb, cond-true, cond-false, cases_eq, cases_Bool}
use Rattle.code.specs.Messages.{every, is_row, span, each, messages}

pub row_length : (k p : ℕ) (x : List ℕ) → is_row k p x ≡ true → length x ≡ k
row_length k p x e = eqb-true (length x) k (and_parts (eqb (length x) k) (every (λ l. ltb l p) x) e).0

pub row_every : (k p : ℕ) (x : List ℕ) → is_row k p x ≡ true → every (λ l. ltb l p) x ≡ true
row_every k p x e = (and_parts (eqb (length x) k) (every (λ l. ltb l p) x) e).1

pub row_from : (k p : ℕ) (x : List ℕ) → length x ≡ k → every (λ l. ltb l p) x ≡ true → is_row k p x ≡ true
row_from k p x e h = and_from _ _ (eq-eqb (length x) k e) h

pub row_cons : (k p a : ℕ) (x : List ℕ) → a < p → is_row k p x ≡ true → is_row (suc k) p (a ∷ x) ≡ true
row_cons k p a x h e = row_from (suc k) p (a ∷ x) (ap suc (row_length k p x e)) (and_from _ _ (lt-ltb a p h) (row_every k p x e))

pub row_head : (k p a : ℕ) (x : List ℕ) → is_row (suc k) p (a ∷ x) ≡ true → a < p
row_head k p a x e = ltb-true a p (and_parts (ltb a p) _ (row_every (suc k) p (a ∷ x) e)).0

pub row_tail : (k p a : ℕ) (x : List ℕ) → is_row (suc k) p (a ∷ x) ≡ true → is_row k p x ≡ true
row_tail k p a x e = row_from k p x (let h = row_length (suc k) p (a ∷ x) e in omega arith) (and_parts (ltb a p) _ (row_every (suc k) p (a ∷ x) e)).1

kept_each : {X Y : Type 0} (f : Y → Bool) (g : X → List Y) (xs : List X) → filter f (each g xs) ≡ each (λ x. filter f (g x)) xs
kept_each f g [] = refl
kept_each f g (x ∷ xs) = filter-append f (g x) (each g xs) ∙ ap (λ z. filter f (g x) ++ z) (kept_each f g xs)

kept_map : {X Y : Type 0} (f : Y → Bool) (g : X → Y) (xs : List X) → filter f (map g xs) ≡ map g (filter (λ x. f (g x)) xs)
kept_map f g [] = refl
kept_map f g (x ∷ xs) =
    ap (λ z. cond (f (g x)) (g x ∷ z) z) (kept_map f g xs)
    ∙ (elim (f (g x)) as (λ b. cond b (g x ∷ map g (filter (λ x. f (g x)) xs)) (map g (filter (λ x. f (g x)) xs)) ≡ map g (cond b (x ∷ filter (λ x. f (g x)) xs) (filter (λ x. f (g x)) xs))) [ true ↦ refl | false ↦ refl ])

-- letters from i on, c of them
each_none : {Y : Type 0} (h : ℕ → List Y) (i c : ℕ) → ((b : ℕ) → i ≤ b → b < i + c → h b ≡ []) → each h (span i c) ≡ []
unfolding span
each_none h i zero e = refl
each_none h i (suc c) e = ap₂ ◌++◌ (e i (omega arith) (omega arith)) (each_none h (suc i) c (λ b lo hi. e b (omega arith) (omega arith)))

each_one : {Y : Type 0} (h : ℕ → List Y) (a i c : ℕ) → i ≤ a → a < i + c → ((b : ℕ) → i ≤ b → b < i + c → (b ≡ a → ⊥) → h b ≡ []) → each h (span i c) ≡ h a
unfolding span
each_one h a i zero lo hi e = absurd (omega arith)
each_one h a i (suc c) lo hi e =
    ⊎_elim
    (λ same.
    ap (λ z. h i ++ z) (each_none h (suc i) c (λ b l u. e b (omega arith) (omega arith) (λ eq. omega arith)))
    ∙ append-nil (h i) ∙ ap h same)
    (λ ne. ap (λ z. z ++ each h (span (suc i) c)) (e i (omega arith) (omega arith) ne) ∙ each_one h a (suc i) c (omega arith) (omega arith) (λ b l u n. e b (omega arith) (omega arith) n))
    (cases_eq i a)

-- no message passes
pub kept_none : (p k : ℕ) (f : List ℕ → Bool) → ((y : List ℕ) → is_row k p y ≡ true → f y ≡ false) → filter f (messages p k) ≡ []
unfolding messages
kept_none p zero f h = cond-false (f []) _ _ (h [] refl)
kept_none p (suc k) f h =
    kept_each f (λ a. map (λ m. a ∷ m) (messages p k)) (span 0 p)
    ∙ each_none _ 0 p (λ b lo hi. kept_map f (λ m. b ∷ m) (messages p k) ∙ ap (map (λ m. b ∷ m)) (kept_none p k (λ m. f (b ∷ m)) (λ y r. h (b ∷ y) (row_cons k p b y (omega arith) r))))

-- one message alone passes
pub kept_one : (p k : ℕ) (f : List ℕ → Bool) (x : List ℕ) → is_row k p x ≡ true → f x ≡ true → ((y : List ℕ) → is_row k p y ≡ true → f y ≡ true → y ≡ x)
    → filter f (messages p k) ≡ x ∷ []
unfolding messages
kept_one p zero f [] r e h = cond-true (f []) _ _ e
kept_one p zero f (a ∷ x) r e h = absurd (let l = row_length 0 p (a ∷ x) r in omega arith)
kept_one p (suc k) f [] r e h = absurd (let l = row_length (suc k) p [] r in omega arith)
kept_one p (suc k) f (a ∷ x) r e h =
    kept_each f (λ a. map (λ m. a ∷ m) (messages p k)) (span 0 p)
    ∙ each_one _ a 0 p (omega arith) (let l = row_head k p a x r in omega arith)
    (λ b lo hi ne.
    kept_map f (λ m. b ∷ m) (messages p k)
    ∙ ap (map (λ m. b ∷ m)) (kept_none p k (λ m. f (b ∷ m)) (λ y ry.
    ⊎_elim (λ t. absurd (ne (let q = h (b ∷ y) (row_cons k p b y (omega arith) ry) t in cc))) (λ t. t) (cases_Bool (f (b ∷ y))))))
    ∙ kept_map f (λ m. a ∷ m) (messages p k)
    ∙ ap (map (λ m. a ∷ m)) (kept_one p k (λ m. f (a ∷ m)) x (row_tail k p a x r) e (λ y ry t. let q = h (a ∷ y) (row_cons k p a y (row_head k p a x r) ry) t in cc))
