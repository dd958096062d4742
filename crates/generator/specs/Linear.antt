-- The word of a difference is the difference of the words, and the first k letters of a word are its message.
use Rattle.std.specs.Prelude.{◌≡◌, ℕ, zero, suc, ◌+◌, ◌-◌, ◌<◌, ◌≤◌, Bool, true, false, cond, ◌&&◌, ltb, List, [], ◌∷◌, map, length, ◌==◌, ◌≢◌, nat_lt, slice_index, refl}
use Rattle.std.proofs.Common.{sym, ap, ap₂, ◌∙◌, ⊎_elim, arith}
use Rattle.std.proofs.lemmas.Bool.{and_parts, and_from, eqb-true, eq-eqb, ne_eqb, ltb-true, lt-ltb, cases_eq}
use Rattle.algebra.specs.Field.{Meaning as Field}
use Rattle.generator.specs.Ring.{RingLaws}
use Rattle.code.specs.Messages.{every, span}
use Rattle.code.specs.Meaning.{clean}
use Rattle.code.specs.Score.{hits}
use Rattle.generator.specs.Generator.{sum_rows, nonzeros, blank}

module _ (F : Field) where
  -- the difference of two messages, letter by letter
  abbrev pub minus : List ℕ → List ℕ → List ℕ
  minus [] xs = []
  minus (y ∷ ys) [] = []
  minus (y ∷ ys) (x ∷ xs) = F.difference y x ∷ minus ys xs

  -- letters of the field
  abbrev pub Below : List ℕ → Type 0
  Below xs = every (λ l. ltb l F.size) xs ≡ true

  module _ (L : RingLaws F) where
    zero_lt : 0 < F.size
    zero_lt = let h = L.two in omega arith

    -- a letter of a word is below the size
    pub sum_below : (column : ℕ → ℕ) (i : ℕ) (xs : List ℕ) → sum_rows F column i xs < F.size
    sum_below column i [] = zero_lt
    sum_below column i (x ∷ xs) = L.sum_below _ _

    -- (a + b) + (c + d) = (a + c) + (b + d)
    swap : (a b c d : ℕ) → a < F.size → b < F.size → c < F.size → d < F.size → F.sum (F.sum a b) (F.sum c d) ≡ F.sum (F.sum a c) (F.sum b d)
    swap a b c d ha hb hc hd =
        L.sum_assoc a b _ ha hb (L.sum_below _ _)
        ∙ ap (F.sum a) (sym (L.sum_assoc b c d hb hc hd) ∙ ap (λ z. F.sum z d) (L.sum_comm b c hb hc) ∙ L.sum_assoc c b d hc hb hd)
        ∙ sym (L.sum_assoc a c _ ha hc (L.sum_below _ _))

    -- a c + b c = (a + b) c
    right : (a b c : ℕ) → a < F.size → b < F.size → c < F.size → F.sum (F.product a c) (F.product b c) ≡ F.product (F.sum a b) c
    right a b c ha hb hc =
        ap₂ F.sum (L.product_comm a c ha hc) (L.product_comm b c hb hc) ∙ sym (L.distributes c a b hc ha hb) ∙ L.product_comm c _ hc (L.sum_below _ _)

    -- a + b = b only at a = 0
    cancel : (a b : ℕ) → a < F.size → b < F.size → F.sum a b ≡ b → a ≡ 0
    cancel a b ha hb e =
        let m = F.difference 0 b in
        let hm = L.difference_below 0 b in
        let z : F.sum b m ≡ 0 = L.sum_comm b m hb hm ∙ L.difference_sum 0 b zero_lt hb in
        sym (L.sum_zero a ha) ∙ ap (F.sum a) (sym z) ∙ sym (L.sum_assoc a b m ha hb hm) ∙ ap (λ y. F.sum y m) e ∙ z

    zero_sum : (a : ℕ) → a < F.size → F.sum 0 a ≡ a
    zero_sum a h = L.sum_comm 0 a zero_lt h ∙ L.sum_zero a h

    pub product_zero : (a : ℕ) → a < F.size → F.product a 0 ≡ 0
    product_zero a h =
        cancel (F.product a 0) (F.product a 0) (L.product_below _ _) (L.product_below _ _)
        (sym (L.distributes a 0 0 h zero_lt zero_lt) ∙ ap (F.product a) (L.sum_zero 0 zero_lt))

    -- a difference of messages is a message
    pub minus_row : (k : ℕ) (ys xs : List ℕ) → length ys ≡ k → length xs ≡ k → (length (minus ys xs) ≡ k) × Below (minus ys xs)
    minus_row k [] xs ey ex = (ey, refl)
    minus_row k (y ∷ ys) [] ey ex = absurd (omega arith)
    minus_row zero (y ∷ ys) (x ∷ xs) ey ex = absurd (omega arith)
    minus_row (suc k) (y ∷ ys) (x ∷ xs) ey ex =
        let r = minus_row k ys xs (omega arith) (omega arith) in
        (ap suc r.0, and_from _ _ (lt-ltb _ F.size (L.difference_below y x)) r.1)

    -- where the difference is zero, the messages are equal
    pub minus_blank : (ys xs : List ℕ) → length ys ≡ length xs → Below ys → Below xs → blank (minus ys xs) ≡ true → ys ≡ xs
    minus_blank [] [] e hy hx b = refl
    minus_blank [] (x ∷ xs) e hy hx b = absurd (omega arith)
    minus_blank (y ∷ ys) [] e hy hx b = absurd (omega arith)
    minus_blank (y ∷ ys) (x ∷ xs) e hy hx b =
        let p = and_parts (nat_lt y F.size) (every (λ l. ltb l F.size) ys) hy in
        let q = and_parts (nat_lt x F.size) (every (λ l. ltb l F.size) xs) hx in
        let z = and_parts (F.difference y x == 0) (blank (minus ys xs)) b in
        let ly = ltb-true y F.size p.0 in
        let lx = ltb-true x F.size q.0 in
        ap₂ ◌∷◌ (sym (L.difference_sum y x ly lx) ∙ ap (λ w. F.sum w x) (eqb-true _ 0 z.0) ∙ zero_sum x lx) (minus_blank ys xs (omega arith) p.1 q.1 z.1)

    module _ (column : ℕ → ℕ) (fits : (i : ℕ) → column i < F.size) where
      -- the sum over a difference, and that over the second message, make the sum over the first
      pub linear : (i : ℕ) (ys xs : List ℕ) → length ys ≡ length xs → Below ys → Below xs
          → F.sum (sum_rows F column i (minus ys xs)) (sum_rows F column i xs) ≡ sum_rows F column i ys
      linear i [] [] e hy hx = L.sum_zero 0 zero_lt
      linear i [] (x ∷ xs) e hy hx = absurd (omega arith)
      linear i (y ∷ ys) [] e hy hx = absurd (omega arith)
      linear i (y ∷ ys) (x ∷ xs) e hy hx =
          let p = and_parts (nat_lt y F.size) (every (λ l. ltb l F.size) ys) hy in
          let q = and_parts (nat_lt x F.size) (every (λ l. ltb l F.size) xs) hx in
          let ly = ltb-true y F.size p.0 in
          let lx = ltb-true x F.size q.0 in
          swap _ _ _ _ (L.product_below _ _) (sum_below column (suc i) (minus ys xs)) (L.product_below _ _) (sum_below column (suc i) xs)
          ∙ ap₂ F.sum (right _ x (column i) (L.difference_below y x) lx (fits i) ∙ ap (λ z. F.product z (column i)) (L.difference_sum y x ly lx)) (linear (suc i) ys xs (omega arith) p.1 q.1)

      -- where the sums agree, the difference's is zero
      pub agree_zero : (ys xs : List ℕ) → length ys ≡ length xs → Below ys → Below xs → sum_rows F column 0 ys ≡ sum_rows F column 0 xs → sum_rows F column 0 (minus ys xs) ≡ 0
      agree_zero ys xs e hy hx a = cancel _ (sum_rows F column 0 xs) (sum_below column 0 (minus ys xs)) (sum_below column 0 xs) (linear 0 ys xs e hy hx ∙ a)

    -- a column of zeros sums to zero
    past : (column : ℕ → ℕ) (j i n : ℕ) (xs : List ℕ) → length xs ≤ n → ((r : ℕ) → i ≤ r → r < i + n → column r ≡ 0) → Below xs → sum_rows F column i xs ≡ 0
    past column j i n [] l h b = refl
    past column j i zero (x ∷ xs) l h b = absurd (omega arith)
    past column j i (suc n) (x ∷ xs) l h b =
        let p = and_parts (nat_lt x F.size) (every (λ l. ltb l F.size) xs) b in
        ap₂ F.sum (ap (F.product x) (h i (omega arith) (omega arith)) ∙ product_zero x (ltb-true x F.size p.0)) (past column j (suc i) n xs (omega arith) (λ r lo hi. h r (omega arith) (omega arith)) p.1)
        ∙ L.sum_zero 0 zero_lt

    -- a column of the identity gives a letter of the message back
    pub one_column : (column : ℕ → ℕ) (j i n : ℕ) (xs : List ℕ) → length xs ≡ n → i ≤ j → j < i + n → ((r : ℕ) → i ≤ r → r < i + n → column r ≡ cond (r == j) 1 0) → Below xs
        → sum_rows F column i xs ≡ slice_index xs (j - i)
    one_column column j i n [] l lo hi h b = absurd (omega arith)
    one_column column j i zero (x ∷ xs) l lo hi h b = absurd (omega arith)
    one_column column j i (suc n) (x ∷ xs) l lo hi h b =
        let p = and_parts (nat_lt x F.size) (every (λ l. ltb l F.size) xs) b in
        let lx = ltb-true x F.size p.0 in
        ⊎_elim
        (λ e.
        ap₂ F.sum
        (ap (F.product x) (h i (omega arith) (omega arith) ∙ ap (λ z. cond z 1 0) (eq-eqb i j e)) ∙ L.product_one x lx)
        (past column j (suc i) n xs (omega arith) (λ r a c. h r (omega arith) (omega arith) ∙ ap (λ z. cond z 1 0) (ne_eqb r j (λ q. omega arith))) p.1)
        ∙ L.sum_zero x lx
        ∙ ap (λ z. slice_index (x ∷ xs) z) (let z : 0 ≡ j - i = omega arith in z))
        (λ ne.
        ap₂ F.sum
        (ap (F.product x) (h i (omega arith) (omega arith) ∙ ap (λ z. cond z 1 0) (ne_eqb i j ne)) ∙ product_zero x lx)
        (one_column column j (suc i) n xs (omega arith) (omega arith) (omega arith) (λ r a c. h r (omega arith) (omega arith)) p.1)
        ∙ zero_sum _ (below_at xs (j - suc i) p.1)
        ∙ ap (λ z. slice_index (x ∷ xs) z) (let z : suc (j - suc i) ≡ j - i = omega arith in z))
        (cases_eq i j)
      where
        below_at : (xs : List ℕ) (i : ℕ) → Below xs → slice_index xs i < F.size
        below_at [] i b = zero_lt
        below_at (x ∷ xs) zero b = ltb-true x F.size (and_parts (nat_lt x F.size) (every (λ l. ltb l F.size) xs) b).0
        below_at (x ∷ xs) (suc i) b = below_at xs i (and_parts (nat_lt x F.size) (every (λ l. ltb l F.size) xs) b).1

-- places that agree, and places of the difference that are not zero, are apart
pub overlap : {X : Type 0} (f g h : X → ℕ) → ((j : X) → g j ≡ f j → h j ≡ 0) → (ps : List X) → hits (clean (map f ps)) (map g ps) + nonzeros (map h ps) ≤ length ps
overlap f g h z [] = omega arith
overlap f g h z (j ∷ ps) =
    let r = overlap f g h z ps in
    ⊎_elim
    (λ e.
    let a : ◌≡◌ {A = ℕ} (cond (g j == f j) 1 0) 1 = ap (λ b. cond b 1 0) (eq-eqb (g j) (f j) e) in
    let b : ◌≡◌ {A = ℕ} (cond (h j == 0) 0 1) 0 = ap (λ b. cond b 0 1) (eq-eqb (h j) 0 (z j e)) in
    omega arith)
    (λ ne.
    let a : ◌≡◌ {A = ℕ} (cond (g j == f j) 1 0) 0 = ap (λ b. cond b 1 0) (ne_eqb (g j) (f j) ne) in
    let b : cond (h j == 0) 0 1 ≤ 1 = small (h j == 0) in
    omega arith)
    (cases_eq (g j) (f j))
  where
    small : (b : Bool) → cond b 0 1 ≤ 1
    small true = omega arith
    small false = omega arith

-- a letter that is not zero counts
pub some_nonzero : (f : ℕ → ℕ) (a c j : ℕ) → a ≤ j → j < a + c → (f j ≢ 0) → 1 ≤ nonzeros (map f (span a c))
unfolding span
some_nonzero f a zero j lo hi ne = absurd (omega arith)
some_nonzero f a (suc c) j lo hi ne =
    ⊎_elim
    (λ e. let b : ◌≡◌ {A = ℕ} (cond (f a == 0) 0 1) 1 = ap (λ b. cond b 0 1) (ne_eqb (f a) 0 (λ z. ne (ap f (sym e) ∙ z))) in omega arith)
    (λ d. let r = some_nonzero f (suc a) c j (omega arith) (omega arith) ne in omega arith)
    (cases_eq a j)

-- a message that is not all zero has a letter that is not
pub not_blank : (xs : List ℕ) → blank xs ≡ false → (j : ℕ) × (j < length xs) × (slice_index xs j ≢ 0)
not_blank [] b = absurd (let z : ◌≡◌ {A = ℕ} 0 1 = cc in omega arith)
not_blank (x ∷ xs) b =
    ⊎_elim
    (λ e. let r = not_blank xs (sym (ap (λ z. z && blank xs) (eq-eqb x 0 e)) ∙ b) in (suc r.0, (let l = r.1 in omega arith), r.2))
    (λ ne. (0, omega arith, ne))
    (cases_eq x 0)
