-- What a fitted curve gives: the pairs taken, the polynomials through many of them, and how few they are.
use Rattle.std.proofs.Common.{◌≡◌, ℕ, zero, suc, ◌+◌, ◌-◌, ◌*◌, ◌<◌, ◌≤◌, true, false, ◌&&◌, ltb, List, [], ◌∷◌, ◌++◌, length, get_or, sym, refl, ap, ◌∙◌, subst, subst₂, ⊎_elim, mul-le-mul_right, suc-mul, arith}
use Rattle.std.proofs.Props.{props}
use Rattle.std.proofs.lemmas.List.{length_push, length-map, get_or_append_left}
use Rattle.std.proofs.lemmas.Bool.{and_from, and_parts, ltb-true, eq-eqb, cases_lt, true≢false, or_left, or_right}
use Rattle.algebra.specs.Field.{Meaning, Laws, codes}
use Rattle.algebra.specs.Curve.{DegreeBelow, Lies, ZeroAt}
use Rattle.algebra.specs.Interpolation.{Fitted}
use Rattle.algebra.specs.CodeRecovery.{Pairs, table, at, score}
use Rattle.algebra.proofs.CodeRecovery.{code_vanishing}
use Rattle.counting.specs.Counting.{conditions}
use Rattle.code.specs.Messages.{is_row}
use Rattle.code.proofs.Alone.{row_length}
use Rattle.interpolation.specs.Size.{columns, rows}
use Rattle.interpolation.specs.declared.pairs.Pair.{Pair}
use Rattle.interpolation.specs.Pairs.{points, values}
use Rattle.interpolation.specs.Fitting.{among, Gathered}

-- a pair that is among others
among_here : (xs ys : List ℕ) (i x y : ℕ) → i < length xs → length xs ≡ length ys → get_or xs i 0 ≡ x → get_or ys i 0 ≡ y → among xs ys x y ≡ true
among_here [] ys i x y h e ex ey = absurd (omega arith)
among_here (a ∷ xs) [] i x y h e ex ey = absurd (omega arith)
among_here (a ∷ xs) (b ∷ ys) zero x y h e ex ey = or_left _ _ (and_from _ _ (eq-eqb a x ex) (eq-eqb b y ey))
among_here (a ∷ xs) (b ∷ ys) (suc i) x y h e ex ey = or_right _ _ (among_here xs ys i x y (omega arith) (omega arith) ex ey)

module _ (F : Meaning) (xs ys : List ℕ) (x y : ℕ) where
  -- one pair more, which is not among them
  pub more_pairs : Pairs F xs ys → x < F.size → y < F.size → among xs ys x y ≡ false → Pairs F (xs ++ x ∷ []) (ys ++ y ∷ [])
  more_pairs P hx hy new =
      let n = length_push xs x in
      let m = length_push ys y in
      let s = P.same in
      record {
        same = omega arith;
        low_x = λ t h. at_each (λ z. z < F.size) xs x P.low_x hx t (omega arith);
        low_y = λ t h. at_each (λ z. z < F.size) ys y (λ i l. P.low_y i (omega arith)) hy t (omega arith);
        apart = λ i j o h ex ey.
            ⊎_elim
            (λ l. P.apart i j o l (sym (left xs x i (omega arith)) ∙ ex ∙ left xs x j l) (sym (left ys y i (omega arith)) ∙ ey ∙ left ys y j (omega arith)))
            (λ l.
            let e : j ≡ length xs = omega arith in
            true≢false (sym (among_here xs ys i x y (omega arith) s
            (sym (left xs x i (omega arith)) ∙ ex ∙ ap (λ z. get_or (xs ++ x ∷ []) z 0) e ∙ last xs x)
            (sym (left ys y i (omega arith)) ∙ ey ∙ ap (λ z. get_or (ys ++ y ∷ []) z 0) (e ∙ s) ∙ last ys y)) ∙ new))
            (cases_lt j (length xs));
      }
    where
      left : (l : List ℕ) (z i : ℕ) → i < length l → get_or (l ++ z ∷ []) i 0 ≡ get_or l i 0
      left l z i h = get_or_append_left l (z ∷ []) 0 i h

      last : (l : List ℕ) (z : ℕ) → get_or (l ++ z ∷ []) (length l) 0 ≡ z
      last [] z = refl
      last (a ∷ l) z = last l z

      at_each : (Q : ℕ → Type 0) (l : List ℕ) (z : ℕ) → ((i : ℕ) → i < length l → Q (get_or l i 0)) → Q z → (i : ℕ) → i ≤ length l → Q (get_or (l ++ z ∷ []) i 0)
      at_each Q l z h q i k =
          ⊎_elim (λ o. subst Q (sym (left l z i o)) (h i o))
          (λ o. subst Q (sym (ap (λ u. get_or (l ++ z ∷ []) u 0) (let e : i ≡ length l = omega arith in e) ∙ last l z)) q) (cases_lt i (length l))

-- fewer pairs ask fewer conditions
pub conditions_le : (n N r : ℕ) → n ≤ N → conditions n r ≤ conditions N r
conditions_le n N r h =
    let a : n * r ≤ N * r = mul-le-mul_right r h in
    let b : n * r * (r + 1) ≤ N * r * (r + 1) = mul-le-mul_right (r + 1) a in
    omega arith

module _ (F : Meaning) (L : Laws F) (k t r : ℕ) (xs ys cells : List ℕ) (some : 1 ≤ k) (low : 1 ≤ r * t) (pairs : Pairs F xs ys)
    (fit : Fitted (codes F) columns rows (k - 1) (r * t - 1) r (length xs) (at xs) (at ys) (table F columns cells)) where
  -- every polynomial through t of the pairs lies on the curve
  pub covers : (f : List ℕ) → is_row k F.size f ≡ true → t ≤ score F xs ys f → Lies (codes F) columns rows (table F columns cells) f
  covers f row h =
      code_vanishing F L r t columns rows (k - 1) (table F columns cells) f xs ys
      (let e = row_length k F.size f row in let z : length f ≡ suc (k - 1) = omega arith in z)
      (subst (λ m. DegreeBelow (codes F) columns rows (k - 1) m (table F columns cells)) (let z : suc (r * t - 1) ≡ r * t = omega arith in z) fit.within)
      pairs fit.through h

  pub light : DegreeBelow (codes F) columns rows (k - 1) (r * t - 1 + 1) (table F columns cells)
  light = subst (λ m. DegreeBelow (codes F) columns rows (k - 1) m (table F columns cells)) (let z : suc (r * t - 1) ≡ r * t - 1 + 1 = omega arith in z) fit.within

pub positive : (r t : ℕ) → 1 ≤ r → 1 ≤ t → 1 ≤ r * t
positive zero t a b = absurd (omega arith)
positive (suc r) t a b = let e = suc-mul r t in omega arith

-- one pair more below the limit
pub more_gathered : (F : Meaning) (limit size : ℕ) (xs ys : List ℕ) (x y : ℕ) (xs' ys' : List ℕ) → Gathered F limit xs ys → size ≡ F.size
    → (ltb x size && ltb x 64) ≡ true → y < size → among xs ys x y ≡ false → length xs < limit → xs' ≡ xs ++ x ∷ [] → ys' ≡ ys ++ y ∷ [] → Gathered F limit xs' ys'
more_gathered F limit size xs ys x y xs' ys' G es px hy new h ex ey =
    let hx = ltb-true x size (and_parts (ltb x size) (ltb x 64) px).0 in
    let n = length_push xs x in
    let m = ap length ex in
    record {
      pairs = subst₂ (Pairs F) (sym ex) (sym ey) (more_pairs F xs ys x y G.pairs (omega (arith, es)) (omega (arith, es)) new);
      few = omega arith;
    }

-- the same curve, said of equal pairs and an equal degree
pub fitted_same : (F : Meaning) (v v' d d' r : ℕ) (ps qs : List Pair) (cells : List ℕ) → v ≡ v' → d ≡ d' → ps ≡ qs
    → Fitted (codes F) columns rows v d r (length ps) (at (points ps)) (at (values ps)) (table F columns cells)
    → Fitted (codes F) columns rows v' d' r (length (points qs)) (at (points qs)) (at (values qs)) (table F columns cells)
fitted_same F v v' d d' r ps qs cells ev ed ep h =
    subst (λ n. Fitted (codes F) columns rows v' d' r n (at (points qs)) (at (values qs)) (table F columns cells)) (sym (length-map qs (λ p. p.point)))
    (subst₂ (λ z l. Fitted (codes F) columns rows v' z r (length l) (at (points l)) (at (values l)) (table F columns cells)) ed ep
    (subst (λ w. Fitted (codes F) columns rows w d r (length ps) (at (points ps)) (at (values ps)) (table F columns cells)) ev h))

pub lies_prop : (F : Meaning) (cells f : List ℕ) → IsProp (Lies (codes F) columns rows (table F columns cells) f)
unfolding ZeroAt
lies_prop F cells f = Prim.hlevel props
