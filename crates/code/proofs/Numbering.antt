-- The message with number v stands at place v of the messages.
use Rattle.std.proofs.Common.{◌≡◌, ℕ, zero, suc, ◌+◌, ◌-◌, ◌*◌, ◌/◌, ◌%◌, ◌^◌, ◌<◌, ◌≤◌, ltb, List, [], ◌∷◌, ◌++◌, map, length, get_or, Some, None, sym, refl, ap, ◌∙◌, subst, ap₂, ⊎_elim, mod-lt, mul_assoc, suc-mul, mul_comm, mul-le-mul_left, pow-suc, mul-one, arith}
use native.Mathlib.Nat.{pow-zero, add-mul-div_right, add-mul-mod_self_right, div-add-mod}
use Rattle.std.proofs.lemmas.Nat.{div_below}
use Rattle.std.proofs.lemmas.List.{length_push, length-append, length-map, get_or_append_left, get_or-append_right, get_or-map}
use Rattle.std.proofs.lemmas.Bool.{cases_lt, cond-true, cond-false, lt-ltb, le-ltb}
use Rattle.code.specs.Messages.{each, messages, span}
use Rattle.code.specs.Messages.{digits, number_from, if_fits}
use Rattle.code.proofs.Spans.{span_length}

each_same : {X Y : Type 0} (f : X → List Y) (n : ℕ) → ((x : X) → length (f x) ≡ n) → (xs : List X) → length (each f xs) ≡ length xs * n
each_same f n h [] = let z : 0 ≡ 0 * n = omega arith in z
each_same f n h (x ∷ xs) = length-append (f x) (each f xs) ∙ (let a = h x in let b = each_same f n h xs in let z = suc-mul (length xs) n in let w : length (f x) + length (each f xs) ≡ suc (length xs) * n = omega arith in w)

pub messages_count : (p k : ℕ) → length (messages p k) ≡ p ^ k
unfolding messages
messages_count p zero = sym (pow-zero p)
messages_count p (suc k) =
    each_same (λ a. map (λ m. a ∷ m) (messages p k)) (p ^ k) (λ a. length-map (messages p k) _ ∙ messages_count p k) (span 0 p)
    ∙ ap (λ z. z * p ^ k) (span_length 0 p) ∙ mul_comm p (p ^ k) ∙ sym (pow-suc p k)

-- place a * n + r of lists of n each
each_at : {Y : Type 0} (f : ℕ → List Y) (n : ℕ) → ((x : ℕ) → length (f x) ≡ n) → (d : Y) (i c a r : ℕ) → a < c → r < n → get_or (each f (span i c)) (a * n + r) d ≡ get_or (f (i + a)) r d
unfolding span
each_at f n h d i zero a r ha hr = absurd (omega arith)
each_at f n h d i (suc c) zero r ha hr =
    ap (λ z. get_or (f i ++ each f (span (suc i) c)) z d) (let z : 0 * n + r ≡ r = omega arith in z)
    ∙ get_or_append_left (f i) (each f (span (suc i) c)) d r (let l = h i in omega arith)
    ∙ ap (λ z. get_or (f z) r d) (let z : i ≡ i + 0 = omega arith in z)
each_at f n h d i (suc c) (suc a) r ha hr =
    let s = suc-mul a n in
    get_or-append_right (f i) (each f (span (suc i) c)) n (suc a * n + r) d (h i) (omega arith)
    ∙ ap (λ z. get_or (each f (span (suc i) c)) z d) (let z : suc a * n + r - n ≡ a * n + r = omega arith in z)
    ∙ each_at f n h d (suc i) c a r (omega arith) hr
    ∙ ap (λ z. get_or (f z) r d) (let z : suc i + a ≡ i + suc a = omega arith in z)

-- the first letter of a number
digits_cons : (p k a r : ℕ) → 0 < p → a < p → r < p ^ k → digits p (suc k) (a * p ^ k + r) ≡ a ∷ digits p k r
unfolding digits
digits_cons p zero a r hp ha hr =
    let one = pow-zero p in
    let m : a * p ^ 0 ≡ a = ap (λ z. a * z) one ∙ mul-one a in
    let e : a * p ^ 0 + r ≡ a = omega arith in
    ap (λ z. (z % p) ∷ []) e ∙ ap (λ z. z ∷ []) (small a p ha)
  where
    small : (a p : ℕ) → a < p → a % p ≡ a
    small a p h = native.Mathlib.Nat.mod-eq_of_lt h
digits_cons p (suc k) a r hp ha hr =
    let e : a * p ^ suc k + r ≡ r + a * p ^ k * p = ap (λ z. a * z + r) (pow-suc p k) ∙ ap (λ z. z + r) (sym (mul_assoc a (p ^ k) p)) ∙ (let z : a * p ^ k * p + r ≡ r + a * p ^ k * p = omega arith in z) in
    let q : (r + a * p ^ k * p) / p ≡ a * p ^ k + r / p = add-mul-div_right r (a * p ^ k) hp ∙ (let z : r / p + a * p ^ k ≡ a * p ^ k + r / p = omega arith in z) in
    let m : (r + a * p ^ k * p) % p ≡ r % p = add-mul-mod_self_right r (a * p ^ k) p in
    ap (λ z. digits p (suc k) (z / p) ++ (z % p) ∷ []) e
    ∙ ap₂ (λ x y. digits p (suc k) x ++ y ∷ []) q m
    ∙ ap (λ z. z ++ (r % p) ∷ []) (digits_cons p k a (r / p) hp ha (div_below r p (p ^ k) hp (subst (λ z. r < z) (pow-suc p k) hr)))

pub message_at : (p k v : ℕ) → 0 < p → v < p ^ k → get_or (messages p k) v [] ≡ digits p k v
unfolding messages digits
message_at p zero v hp h = let z = pow-zero p in ap (λ y. get_or ([] ∷ []) y []) (let e : v ≡ 0 = omega arith in e)
message_at p (suc k) v hp h =
    let n = p ^ k in
    let pos : 0 < p ^ k = positive k in
    let e : v ≡ v / p ^ k * p ^ k + v % p ^ k = sym (div-add-mod v (p ^ k)) ∙ ap (λ z. z + v % p ^ k) (mul_comm (p ^ k) (v / p ^ k)) in
    let r : v % p ^ k < p ^ k = mod-lt v pos in
    let a : v / p ^ k < p = div_below v (p ^ k) p pos (subst (λ z. v < z) (pow-suc p k ∙ mul_comm (p ^ k) p) h) in
    ap (λ z. get_or (messages p (suc k)) z []) e
    ∙ each_at (λ a. map (λ m. a ∷ m) (messages p k)) (p ^ k) (λ x. length-map (messages p k) _ ∙ messages_count p k) [] 0 p (v / p ^ k) (v % p ^ k) a r
    ∙ ap (λ z. get_or (map (λ m. z ∷ m) (messages p k)) (v % p ^ k) []) (let z : 0 + v / p ^ k ≡ v / p ^ k = omega arith in z)
    ∙ get_or-map (λ m. v / p ^ k ∷ m) (messages p k) (v % p ^ k) [] [] (let c = messages_count p k in omega arith)
    ∙ ap (λ z. v / p ^ k ∷ z) (message_at p k (v % p ^ k) hp r)
    ∙ sym (ap (digits p (suc k)) e ∙ digits_cons p k (v / p ^ k) (v % p ^ k) hp a r)
  where
    positive : (k : ℕ) → 0 < p ^ k
    positive k = let z = pow-zero p in let lo : 0 ≤ k = omega arith in let a : p ^ 0 ≤ p ^ k = native.Mathlib.Nat.pow-le-pow_right hp lo in omega arith

pub digits_length : (p k v : ℕ) → length (digits p k v) ≡ k
unfolding digits
digits_length p zero v = refl
digits_length p (suc k) v = length_push (digits p k (v / p)) (v % p) ∙ (let e = digits_length p k (v / p) in let f : length (digits p k (v / p)) + 1 ≡ suc k = omega arith in f)

-- a number only grows by the letters after it
pub number_grows : (p a : ℕ) (xs : List ℕ) → 0 < p → a ≤ number_from p a xs
number_grows p a [] h = omega arith
number_grows p a (x ∷ xs) h = let r = number_grows p (a * p + x) xs h in let m : a * 1 ≤ a * p = mul-le-mul_left a h in omega (arith, mul-one a)

-- a number that fits, and one that does not
some_fits : (v : ℕ) → v < 2 ^ 64 → Some v ≡ if_fits v
some_fits v h = sym (cond-true (ltb v (2 ^ 64)) (Some v) None (lt-ltb v (2 ^ 64) h))

pub none_fits : (v : ℕ) → 2 ^ 64 ≤ v → None ≡ if_fits v
none_fits v h = sym (cond-false (ltb v (2 ^ 64)) (Some v) None (le-ltb v (2 ^ 64) h))

pub fits_none : (v : ℕ) → None ≡ if_fits v → 2 ^ 64 ≤ v
fits_none v e = ⊎_elim (λ h. let s = some_fits v h in let z : ◌≡◌ {A = ℕ} 0 1 = cc in absurd (omega arith)) (λ h. h) (cases_lt v (2 ^ 64))
