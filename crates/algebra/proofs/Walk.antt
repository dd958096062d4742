-- The walk meets every polynomial on the curve: division by x and x y + g put for y keep it on the curve,
-- and its first coefficient is a root of the curve at x = 0.
use Rattle.std.proofs.Common.{◌≡◌, ℕ, zero, suc, ◌+◌, ◌-◌, ◌*◌, ◌<◌, ◌≤◌, List, [], ◌∷◌, length, sym, refl, ap, ◌∙◌, subst, ap₂, ⊎_elim, mul-add, arith}
use mathlib.Core.Path.{fun_ext}
use Rattle.std.proofs.lemmas.Bool.{cases_lt}
use Rattle.algebra.specs.Ring.{Ops, CommRing, Field}
use Rattle.algebra.specs.Series.{poly, const, 𝕏, series, coefficients}
use Rattle.algebra.specs.Curve.{Table, DegreeBelow, row, ZeroAt, Lies}
use Rattle.algebra.specs.Interpolation.{Same}
use Rattle.algebra.specs.Recovery.{WalkMeets}
use Rattle.algebra.specs.Walk.{Clear, shifted, bottom, stretched, moved}
use Rattle.algebra.proofs.Ring.{zero_mul, mul_zero, add_zero, zero_add}
use Rattle.algebra.proofs.Series.{𝓢, const_smul, x_mul}
use Rattle.algebra.proofs.Horner.{poly_ext, poly_zero, poly_first, poly_turn, down}
use Rattle.algebra.proofs.Rows.{row_in, row_out, row_zero}

module _ {K : Type 0} (O : Ops K) (X Y v : ℕ) where
  -- The weighted degree depends on the coefficients that count, and division by x^m lowers it.
  pub degree_same : (m : ℕ) (c e : Table K) → Same X Y e c → DegreeBelow O X Y v m c → DegreeBelow O X Y v m e
  degree_same m c e s low i j hi hj o = s i j hi hj ∙ low i j hi hj o

  pub shifted_degree : (m : ℕ) (c : Table K) → DegreeBelow O X Y v X c → DegreeBelow O X Y v X (shifted O X m c)
  shifted_degree m c low i j hi hj o = row_zero O X c j (m + i) (λ l. low (m + i) j l hj (omega arith))

module _ {K : Type 0} (𝓚 : CommRing K) (X Y : ℕ) where
  infixl 60 ◌⊕◌ ◌⊞◌
  infixl 70 ◌⊗◌ ◌⊠◌
  open 𝓚 use {ops as O}
  open 𝓚.ops use {zero as 𝟘, add as ◌⊕◌, mul as ◌⊗◌}
  open (𝓢 𝓚).ops use {zero as ∅, add as ◌⊞◌, mul as ◌⊠◌}

  -- Shorter names: an element as a series, the series x, a row of a curve, a polynomial in y over the series.
  abbrev κ : K → ℕ → K
  κ = const O

  abbrev x : ℕ → K
  x = 𝕏 O

  abbrev ρ : Table K → ℕ → ℕ → K
  ρ = row O X

  abbrev value : ℕ → (ℕ → ℕ → K) → (ℕ → K) → ℕ → K
  value = poly (series O)

  -- Only the coefficients that count matter.
  pub lies_same : (c e : Table K) → Same X Y e c → (f : List K) → Lies O X Y c f → Lies O X Y e f
  unfolding ZeroAt
  lies_same c e s f z =
      poly_ext (𝓢 𝓚) Y (ρ e) (ρ c) _ (λ j l. fun_ext (λ i. ⊎_elim
      (λ h. row_in O X e j i h ∙ s i j h l ∙ sym (row_in O X c j i h))
      (λ h. row_out O X e j i h ∙ sym (row_out O X c j i h))
      (cases_lt i X)))
      ∙ z

  -- Division by x^m.
  shifted_row : (m : ℕ) (c : Table K) (j : ℕ) → ρ (shifted O X m c) j ≡ (λ i. ρ c j (m + i))
  shifted_row m c j = fun_ext (λ i. ⊎_elim
      (λ h. row_in O X (shifted O X m c) j i h)
      (λ h. row_out O X (shifted O X m c) j i h ∙ sym (row_out O X c j (m + i) (omega arith)))
      (cases_lt i X))

  pub shifted_lies : (m : ℕ) (c : Table K) → Clear O Y m c → (f : List K) → Lies O X Y c f → Lies O X Y (shifted O X m c) f
  unfolding ZeroAt
  shifted_lies m c clear f z =
      poly_ext (𝓢 𝓚) Y (ρ (shifted O X m c)) (λ j i. ρ c j (m + i)) _ (λ j _. shifted_row m c j)
      ∙ down 𝓚 m Y (ρ c) _ (λ i h j l. row_zero O X c j i (λ _. clear i h j l)) z

  -- The first coefficient of a polynomial on the curve is a root at x = 0.
  pub root : (c : Table K) → ((j : ℕ) → ρ c j 0 ≡ c 0 j) → (g : K) (f : List K) → Lies O X Y c (g ∷ f) → bottom O Y c g ≡ 𝟘
  unfolding ZeroAt
  root c first g f z =
      poly_ext 𝓚 Y (λ j. c 0 j) (λ j. ρ c j 0) g (λ j _. sym (first j))
      ∙ sym (poly_first 𝓚 Y (ρ c) (coefficients O (g ∷ f)))
      ∙ (λ i. z i 0)

  -- The rows of c from k on are put together in e, with x y + g for y; w + 1 is the weight of y before, and w after.
  record Part (w : ℕ) (g : K) (c : Table K) (k : ℕ) (e : Table K) : Type 0 where
    high : (i j : ℕ) → i < X → j < Y → Y ≤ j + k → e i j ≡ 𝟘
    light : (i j : ℕ) → i < X → j < Y → X ≤ i + w * j + (w + 1) * k → e i j ≡ 𝟘
    is : (y : ℕ → K) → value Y (ρ e) y ≡ value (Y - k) (λ j. ρ c (k + j)) (κ g ⊞ x ⊠ y)

  -- At first there are none.
  part_none : (w : ℕ) (g : K) (c e : Table K) → ((i j : ℕ) → i < X → j < Y → e i j ≡ 𝟘) → Part w g c Y e
  part_none w g c e zero-table = record {
    high = λ i j hi hj _. zero-table i j hi hj;
    light = λ i j hi hj _. zero-table i j hi hj;
    is = λ y.
        poly_ext (𝓢 𝓚) Y (ρ e) (λ _. ∅) y (λ j l. fun_ext (λ i. row_zero O X e j i (λ h. zero-table i j h l)))
        ∙ poly_zero (𝓢 𝓚) Y y
        ∙ ap (λ n. value n (λ j. ρ c (Y + j)) (κ g ⊞ x ⊠ y)) (let z : 0 ≡ Y - Y = omega arith in z);
  }

  module _ (w : ℕ) (g : K) (c : Table K) (low : DegreeBelow O X Y (w + 1) X c) (k : ℕ) (lt : k < Y) (old : Table K) (p : Part w g c (suc k) old) where
    both_zero : (a b d : K) → b ≡ 𝟘 → d ≡ 𝟘 → a ⊗ b ⊕ d ≡ 𝟘
    both_zero a b d e f = (λ i. a ⊗ e i ⊕ f i) ∙ ap (λ t. t ⊕ 𝟘) (mul_zero 𝓚 a) ∙ add_zero 𝓚 𝟘

    -- The curve with one row more.
    abbrev new : Table K
    new = stretched O g old c k

    high_new : (i j : ℕ) → i < X → j < Y → Y ≤ j + k → new i j ≡ 𝟘
    high_new i zero hi hj o = absurd (omega arith)
    high_new zero (suc j) hi hj o = both_zero g _ _ (p.high 0 (suc j) hi hj (omega arith)) refl
    high_new (suc i) (suc j) hi hj o = both_zero g _ _ (p.high (suc i) (suc j) hi hj (omega arith)) (p.high i j (omega arith) (omega arith) (omega arith))

    more : (w + 1) * suc k ≡ (w + 1) * k + (w + 1)
    more = omega (arith, mul-add (w + 1) k 1)

    light_new : (i j : ℕ) → i < X → j < Y → X ≤ i + w * j + (w + 1) * k → new i j ≡ 𝟘
    light_new i zero hi hj o =
        both_zero g _ _ (p.light i 0 hi hj (let m = more in omega arith)) (low i k hi lt (let z : w * 0 ≡ 0 = omega arith in omega arith))
    light_new zero (suc j) hi hj o = both_zero g _ _ (p.light 0 (suc j) hi hj (let m = more in omega arith)) refl
    light_new (suc i) (suc j) hi hj o =
        both_zero g _ _ (p.light (suc i) (suc j) hi hj (let m = more in omega arith))
        (p.light i j (omega arith) (omega arith) (let m = more in let q : w * suc j ≡ w * j + w = omega (arith, mul-add w j 1) in omega arith))

    -- The rows of the new curve, as series.
    first_row : ρ new 0 ≡ κ g ⊠ ρ old 0 ⊞ ρ c k
    first_row = fun_ext (λ i. ⊎_elim (λ h. inside i h) (λ h. outside i h) (cases_lt i X) ∙ ap (λ t. t ⊕ ρ c k i) (sym (const_smul 𝓚 g (ρ old 0) i)))
      where
        inside : (i : ℕ) → i < X → ρ new 0 i ≡ g ⊗ ρ old 0 i ⊕ ρ c k i
        inside i h = row_in O X new 0 i h ∙ ap₂ (λ s t. g ⊗ s ⊕ t) (sym (row_in O X old 0 i h)) (sym (row_in O X c k i h))

        outside : (i : ℕ) → X ≤ i → ρ new 0 i ≡ g ⊗ ρ old 0 i ⊕ ρ c k i
        outside i h = row_out O X new 0 i h ∙ sym (both_zero g _ _ (row_out O X old 0 i h) (row_out O X c k i h))

    next_row : (j : ℕ) → suc j < Y → ρ new (suc j) ≡ κ g ⊠ ρ old (suc j) ⊞ x ⊠ ρ old j
    next_row j l = fun_ext (λ i. at i ∙ ap (λ t. t ⊕ (x ⊠ ρ old j) i) (sym (const_smul 𝓚 g (ρ old (suc j)) i)))
      where
        -- The last coefficient is zero, so that nothing is lost when x moves it past the end.
        last : (i : ℕ) → X ≤ suc i → ρ old j i ≡ 𝟘
        last i h = row_zero O X old j i (λ b. p.light i j b (omega arith) (let m = more in omega arith))

        at : (i : ℕ) → ρ new (suc j) i ≡ g ⊗ ρ old (suc j) i ⊕ (x ⊠ ρ old j) i
        at zero = ⊎_elim
            (λ h. row_in O X new (suc j) 0 h ∙ ap₂ (λ s t. g ⊗ s ⊕ t) (sym (row_in O X old (suc j) 0 h)) (sym (zero_mul 𝓚 (ρ old j 0))))
            (λ h. row_out O X new (suc j) 0 h ∙ sym (both_zero g _ _ (row_out O X old (suc j) 0 h) (zero_mul 𝓚 (ρ old j 0))))
            (cases_lt 0 X)
        at (suc i) = ⊎_elim
            (λ h. row_in O X new (suc j) (suc i) h ∙ ap₂ (λ s t. g ⊗ s ⊕ t) (sym (row_in O X old (suc j) (suc i) h)) (sym (row_in O X old j i (omega arith))))
            (λ h. row_out O X new (suc j) (suc i) h ∙ sym (both_zero g _ _ (row_out O X old (suc j) (suc i) h) (last i h)))
            (cases_lt (suc i) X)
            ∙ ap (λ t. g ⊗ ρ old (suc j) (suc i) ⊕ t) (sym (x_mul 𝓚 (ρ old j) i))

    is_new : (n : ℕ) → Y ≡ suc n → (y : ℕ → K) → value (suc n) (ρ new) y ≡ value (suc n - k) (λ j. ρ c (k + j)) (κ g ⊞ x ⊠ y)
    is_new n e y =
        let z = κ g ⊞ x ⊠ y in
        poly_turn (𝓢 𝓚) n (κ g) (ρ c k) x (ρ old) (ρ new) y first_row (λ j l. next_row j (omega arith))
        (fun_ext (λ i. row_zero O X old n i (λ h. p.high i n h (omega arith) (omega arith))))
        ∙ ap (λ u. ρ c k ⊞ z ⊠ u) (ap (λ n. value n (ρ old) y) (sym e) ∙ p.is y ∙ ap (λ n. value (n - suc k) (λ j. ρ c (suc k + j)) z) e)
        ∙ ap₂ (λ a b. ρ c a ⊞ z ⊠ b) (let q : k ≡ k + 0 = omega arith in q)
        (poly_ext (𝓢 𝓚) (suc n - suc k) (λ j. ρ c (suc k + j)) (λ j. ρ c (k + suc j)) z (λ j _. ap (ρ c) (let q : suc k + j ≡ k + suc j = omega arith in q)))
        ∙ ap (λ n. value n (λ j. ρ c (k + j)) z) (let q : suc (suc n - suc k) ≡ suc n - k = omega arith in q)

    -- One row more.
    part_more : Part w g c k new
    part_more = record {
      high = high_new;
      light = light_new;
      is = λ y. let e : Y ≡ suc (Y - 1) = omega arith in
          ap (λ n. value n (ρ new) y) e ∙ is_new (Y - 1) e y ∙ ap (λ n. value (n - k) (λ j. ρ c (k + j)) (κ g ⊞ x ⊠ y)) (sym e);
    }

  -- When all rows are put together, the weight of y is one less,
  part_degree : (w : ℕ) (g : K) (c e : Table K) → Part w g c 0 e → DegreeBelow O X Y w X e
  part_degree w g c e p i j hi hj o = p.light i j hi hj (let z : (w + 1) * 0 ≡ 0 = omega arith in omega arith)

  -- and what lay on the curve lies on it without its first coefficient.
  part_lies : (w : ℕ) (g : K) (c e : Table K) → Part w g c 0 e → (f : List K) → Lies O X Y c (g ∷ f) → Lies O X Y e f
  unfolding ZeroAt
  part_lies w g c e p f z =
      p.is (coefficients O f)
      ∙ ap (λ n. value n (λ j. ρ c (0 + j)) (κ g ⊞ x ⊠ coefficients O f)) (let q : Y - 0 ≡ Y = omega arith in q)
      ∙ poly_ext (𝓢 𝓚) Y (λ j. ρ c (0 + j)) (ρ c) _ (λ j _. ap (ρ c) (let q : 0 + j ≡ j = omega arith in q))
      ∙ ap (value Y (ρ c)) (sym split)
      ∙ z
    where
      split : coefficients O (g ∷ f) ≡ κ g ⊞ x ⊠ coefficients O f
      split = fun_ext at
        where
          at : (n : ℕ) → coefficients O (g ∷ f) n ≡ (κ g ⊞ x ⊠ coefficients O f) n
          at zero = sym (ap (λ t. g ⊕ t) (zero_mul 𝓚 _) ∙ add_zero 𝓚 g)
          at (suc n) = sym (zero_add 𝓚 _ ∙ x_mul 𝓚 (coefficients O f) n)

  -- The whole substitution.
  moved_part : (w : ℕ) (g : K) (c : Table K) → DegreeBelow O X Y (w + 1) X c → (n k : ℕ) → k + n ≡ Y → Part w g c k (moved O g c n k)
  moved_part w g c low zero k e =
      let q : Y ≡ k = omega arith in
      subst (λ k. Part w g c k (λ i j. 𝟘)) q (part_none w g c (λ i j. 𝟘) (λ i j _ _. refl))
  moved_part w g c low (suc n) k e = part_more w g c low k (omega arith) (moved O g c n (suc k)) (moved_part w g c low n (suc k) (omega arith))

  pub moved_degree : (w : ℕ) (g : K) (c : Table K) → DegreeBelow O X Y (w + 1) X c → DegreeBelow O X Y w X (moved O g c Y 0)
  moved_degree w g c low = part_degree w g c (moved O g c Y 0) (moved_part w g c low Y 0 (omega arith))

  pub moved_lies : (w : ℕ) (g : K) (c : Table K) → DegreeBelow O X Y (w + 1) X c → (f : List K) → Lies O X Y c (g ∷ f) → Lies O X Y (moved O g c Y 0) f
  moved_lies w g c low = part_lies w g c (moved O g c Y 0) (moved_part w g c low Y 0 (omega arith))

module _ {K : Type 0} (𝓕 : Field K) where
  open 𝓕 use {ring as 𝓚}
  open 𝓚 use {ops as O}

  module _ (X Y : ℕ) where
    -- One turn: the root, once the curve is divided by x^m.
    turn : (c : Table K) (g : K) (f : List K) → Lies O X Y c (g ∷ f) → (m : ℕ) → Clear O Y m c → bottom O Y (shifted O X m c) g ≡ O.zero
    turn c g f z m clear = root 𝓚 X Y (shifted O X m c) (λ j i. shifted_row 𝓚 X Y m c j i 0) g f (shifted_lies 𝓚 X Y m c clear (g ∷ f) z)

    pub walk_meets : WalkMeets 𝓕 X Y X
    walk_meets c [] low z = tt
    walk_meets c (g ∷ []) low z = λ m clear. (turn c g [] z m clear, tt)
    walk_meets c (g ∷ h ∷ f) low z = λ m clear.
        let e = shifted O X m c in
        let q : suc (suc (length f)) - 1 ≡ length f + 1 = omega arith in
        let p : length f ≡ suc (length f) - 1 = omega arith in
        let l = shifted_degree O X Y (length f + 1) m c (subst (λ v. DegreeBelow O X Y v X c) q low) in (
          turn c g (h ∷ f) z m clear,
          walk_meets (moved O g e Y 0) (h ∷ f)
              (subst (λ v. DegreeBelow O X Y v X (moved O g e Y 0)) p (moved_degree 𝓚 X Y (length f) g e l))
              (moved_lies 𝓚 X Y (length f) g e l (h ∷ f) (shifted_lies 𝓚 X Y m c clear (g ∷ h ∷ f) z)),
        )
