-- What stands in a list of messages.
use Rattle.std.proofs.Common.{◌≡◌, ℕ, zero, suc, ◌+◌, ◌<◌, ◌≤◌, Bool, true, false, cond, ◌⊎◌, List, [], ◌∷◌, ◌++◌, map, filter, sym, refl, ap, ◌∙◌, subst, inl, inr, ⊎_elim, arith}
use Rattle.std.proofs.lemmas.Bool.{cases_eq, cases_Bool, cond-true}
use Rattle.code.specs.Messages.{is_row, span, each, messages}
use Rattle.code.proofs.Alone.{row_length, row_head, row_tail, row_cons}

-- x stands in the list
abbrev pub In : {X : Type 0} → X → List X → Type 0
In x [] = ⊥
In x (y ∷ ys) = (x ≡ y) ⊎ In x ys

pub in_left : {X : Type 0} (x : X) (xs ys : List X) → In x xs → In x (xs ++ ys)
in_left x [] ys h = absurd h
in_left x (y ∷ xs) ys h = ⊎_elim inl (λ r. inr (in_left x xs ys r)) h

pub in_right : {X : Type 0} (x : X) (xs ys : List X) → In x ys → In x (xs ++ ys)
in_right x [] ys h = h
in_right x (y ∷ xs) ys h = inr (in_right x xs ys h)

pub in_map : {X Y : Type 0} (f : X → Y) (x : X) (xs : List X) → In x xs → In (f x) (map f xs)
in_map f x [] h = absurd h
in_map f x (y ∷ xs) h = ⊎_elim (λ e. inl (ap f e)) (λ r. inr (in_map f x xs r)) h

pub in_each : {Y : Type 0} (f : ℕ → List Y) (y : Y) (a i c : ℕ) → i ≤ a → a < i + c → In y (f a) → In y (each f (span i c))
unfolding span
in_each f y a i zero lo hi h = absurd (omega arith)
in_each f y a i (suc c) lo hi h =
    ⊎_elim (λ e. in_left y (f i) (each f (span (suc i) c)) (subst (λ z. In y (f z)) (sym e) h)) (λ ne. in_right y (f i) (each f (span (suc i) c)) (in_each f y a (suc i) c (omega arith) (omega arith) h)) (cases_eq i a)

-- each row stands among the messages
pub row_in : (p k : ℕ) (x : List ℕ) → is_row k p x ≡ true → In x (messages p k)
unfolding messages
row_in p zero [] r = inl refl
row_in p zero (a ∷ x) r = absurd (let l = row_length 0 p (a ∷ x) r in omega arith)
row_in p (suc k) [] r = absurd (let l = row_length (suc k) p [] r in omega arith)
row_in p (suc k) (a ∷ x) r =
    in_each (λ b. map (λ m. b ∷ m) (messages p k)) (a ∷ x) a 0 p (omega arith) (let h = row_head k p a x r in omega arith) (in_map (λ m. a ∷ m) x (messages p k) (row_in p k x (row_tail k p a x r)))

pub in_kept : {X : Type 0} (f : X → Bool) (x : X) (xs : List X) → f x ≡ true → In x xs → In x (filter f xs)
in_kept f x [] e h = absurd h
in_kept f x (y ∷ xs) e h =
    ⊎_elim
    (λ q. subst (λ z. In x z) (sym (cond-true (f y) (y ∷ filter f xs) (filter f xs) (ap f (sym q) ∙ e))) (inl q))
    (λ r. elim (f y) as (λ b. In x (cond b (y ∷ filter f xs) (filter f xs))) [ true ↦ inr (in_kept f x xs e r) | false ↦ in_kept f x xs e r ])
    h

-- what is kept passes, and stood in the list
pub kept_in : {X : Type 0} (f : X → Bool) (x : X) (xs : List X) → In x (filter f xs) → (f x ≡ true) × In x xs
kept_in f x [] h = absurd h
kept_in f x (y ∷ xs) h =
    ⊎_elim
    (λ t. ⊎_elim (λ e. (ap f e ∙ t, inl e)) (λ r. let z = kept_in f x xs r in (z.0, inr z.1)) (subst (λ b. In x (cond b (y ∷ filter f xs) (filter f xs))) t h))
    (λ n. let z = kept_in f x xs (subst (λ b. In x (cond b (y ∷ filter f xs) (filter f xs))) n h) in (z.0, inr z.1))
    (cases_Bool (f y))

pub in_cases : {X : Type 0} (x : X) (xs ys : List X) → In x (xs ++ ys) → In x xs ⊎ In x ys
in_cases x [] ys h = inr h
in_cases x (y ∷ xs) ys h = ⊎_elim (λ e. inl (inl e)) (λ r. ⊎_elim (λ a. inl (inr a)) (λ b. inr b) (in_cases x xs ys r)) h

pub map_in : {X Y : Type 0} (f : X → Y) (y : Y) (xs : List X) → In y (map f xs) → (x : X) × (In x xs) × (y ≡ f x)
map_in f y [] h = absurd h
map_in f y (x ∷ xs) h = ⊎_elim (λ e. (x, inl refl, e)) (λ r. let z = map_in f y xs r in (z.0, inr z.1, z.2)) h

pub each_in : {Y : Type 0} (f : ℕ → List Y) (y : Y) (i c : ℕ) → In y (each f (span i c)) → (a : ℕ) × (a < i + c) × In y (f a)
unfolding span
each_in f y i zero h = absurd h
each_in f y i (suc c) h =
    ⊎_elim (λ l. (i, omega arith, l)) (λ r. let z = each_in f y (suc i) c r in (z.0, (let q = z.1 in omega arith), z.2)) (in_cases y (f i) (each f (span (suc i) c)) h)

-- the messages are rows
pub in_row : (p k : ℕ) (x : List ℕ) → In x (messages p k) → is_row k p x ≡ true
unfolding messages
in_row p zero x h = ⊎_elim (λ e. ap (is_row 0 p) e) (λ r. absurd r) h
in_row p (suc k) x h =
    let a = each_in (λ b. map (λ m. b ∷ m) (messages p k)) x 0 p h in
    let m = map_in (λ m. a.0 ∷ m) x (messages p k) a.2 in
    ap (is_row (suc k) p) m.2 ∙ row_cons k p a.0 m.0 (let q = a.1 in omega arith) (in_row p k m.0 m.1)
