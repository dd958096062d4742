-- A polynomial through enough pairs lies on the curve, and two polynomials that agree at enough points are equal.
use Rattle.std.proofs.Common.{◌≡◌, ℕ, zero, suc, ◌+◌, ◌*◌, ◌<◌, ◌≤◌, List, [], ◌∷◌, length, sym, refl, ap, ◌∙◌, subst, le_trans, mul-le-mul_left, arith}
use Rattle.algebra.specs.Ring.{Field}
use Rattle.algebra.specs.Lists.{Each, Distinct}
use Rattle.algebra.specs.Series.{ev, AllZero, 𝕏, coefficients}
use Rattle.algebra.specs.Curve.{Table, Multiplicity, DegreeBelow, row, ZeroAt, Lies}
use Rattle.algebra.specs.Recovery.{one_if, Apart, agreed, Vanishing, Unique}
use Rattle.algebra.proofs.Ring.{via, ring, zero_add, add_cancel, cancel}
use Rattle.algebra.proofs.Lists.{each_map}
use Rattle.algebra.proofs.Division.{Order, vanish}
use Rattle.algebra.proofs.Composition.{comp, length_comp, ev₂, ev_series_comp, ev_series_coefficients, ev_series_zero}
use Rattle.algebra.proofs.Taylor.{RowsMultiplicity, through}
use Rattle.algebra.proofs.Weights.{hasse_is}
use Rattle.algebra.proofs.Rows.{rows, rows_fit, rows_derivative, rows_value}

-- An element is kept where the decision is yes.
abbrev keep : {A P : Type 0} → Dec P → A → List A → List A
keep (yes h) a l = a ∷ l
keep (no h) a l = l

keep_length : {A P : Type 0} (d : Dec P) (a : A) (l : List A) (n : ℕ) → length l ≡ n → length (keep d a l) ≡ n + one_if d
keep_length (yes h) a l n e = omega arith
keep_length (no h) a l n e = omega arith

module _ {K : Type 0} (𝓕 : Field K) where
  infixl 60 ◌⊕◌ ◌⊖◌
  infixl 70 ◌⊗◌
  open 𝓕 use {ring as 𝓚, same}
  open 𝓚 use {ops as O}
  open 𝓚.ops use {zero as 𝟘, add as ◌⊕◌, sub as ◌⊖◌, mul as ◌⊗◌}

  module _ (f : List K) (xs ys : ℕ → K) where
    -- The points of the pairs that f passes through.
    abbrev hits : ℕ → List K
    hits zero = []
    hits (suc n) = keep (same (ev O f (xs n)) (ys n)) (xs n) (hits n)

    hits_length : (n : ℕ) → length (hits n) ≡ agreed 𝓕 f xs ys n
    hits_length zero = refl
    hits_length (suc n) = keep_length (same (ev O f (xs n)) (ys n)) (xs n) (hits n) (agreed 𝓕 f xs ys n) (hits_length n)

    each_hits : (P : K → Type 0) (n : ℕ) → ((t : ℕ) → t < n → ev O f (xs t) ≡ ys t → P (xs t)) → Each P (hits n)
    each_hits P zero h = tt
    each_hits P (suc n) h = go (same (ev O f (xs n)) (ys n)) (each_hits P n (λ t l. h t (omega arith)))
      where
        go : (d : Dec (ev O f (xs n) ≡ ys n)) → Each P (hits n) → Each P (keep d (xs n) (hits n))
        go (yes e) r = (h n (omega arith) e, r)
        go (no e) r = r

    -- On the graph of f, pairs with equal points are equal.
    hits_distinct : (n : ℕ) → Apart xs ys n → Distinct (hits n)
    hits_distinct zero d = tt
    hits_distinct (suc n) d = go (same (ev O f (xs n)) (ys n)) (hits_distinct n (λ s t o l. d s t o (omega arith)))
      where
        go : (d : Dec (ev O f (xs n) ≡ ys n)) → Distinct (hits n) → Distinct (keep d (xs n) (hits n))
        go (yes e) r =
            (each_hits (λ y. ¬ (xs n ≡ y)) n (λ t l g z. d t n l (omega arith) (sym z) (sym g ∙ ap (ev O f) (sym z) ∙ e)), r)
        go (no e) r = r

  module _ (X Y v m : ℕ) (c : Table K) (low : DegreeBelow O X Y v m c) where
    -- The rows of the curve as lists.
    abbrev Q : List (List K)
    Q = rows v X Y m (row O X c)

    rows_meet : (r : ℕ) (a b : K) → Multiplicity O X Y r a b c → RowsMultiplicity 𝓚 r a b Q
    rows_meet r a b h u w l = rows_derivative 𝓚 u w a b v X Y m c low ∙ sym (hasse_is 𝓚 X Y a b u w c) ∙ h u w l

    lies : (f : List K) → AllZero O (comp O Q f) → Lies O X Y c f
    unfolding ZeroAt
    lies f z =
        sym (rows_value 𝓚 v X Y m c (coefficients O f) low)
        ∙ ap (ev₂ 𝓚 Q (𝕏 O)) (sym (ev_series_coefficients 𝓚 f))
        ∙ sym (ev_series_comp 𝓚 Q f (𝕏 O))
        ∙ ev_series_zero 𝓚 (comp O Q f) (𝕏 O) z

  pub vanishing : (r t : ℕ) → Vanishing 𝓕 r t (r * t)
  vanishing r t X Y v N c f xs ys lf low apart meets h =
      let Q = rows v X Y (r * t) (row O X c) in
      let n = hits_length f xs ys N in
      lies X Y v (r * t) c low f
      (vanish 𝓚 (cancel 𝓕) (hits f xs ys N) r (comp O Q f) (hits_distinct f xs ys N apart)
      (each_hits f xs ys (λ a. Order O a r (comp O Q f)) N
      (λ s l e. through 𝓚 Q f r (xs s) (subst (λ b. RowsMultiplicity 𝓚 r (xs s) b Q) (sym e) (rows_meet X Y v (r * t) c low r (xs s) (ys s) (meets s l)))))
      (le_trans (length_comp 𝓚 Q f v (r * t) lf (rows_fit v X Y (r * t) (row O X c)))
      (mul-le-mul_left r (let k : t ≤ length (hits f xs ys N) = omega arith in k))))

  -- The difference of two polynomials.
  abbrev minus : List K → List K → List K
  minus [] g = []
  minus (c ∷ f) [] = []
  minus (c ∷ f) (d ∷ g) = (c ⊖ d) ∷ minus f g

  minus_ev : (f g : List K) (a : K) → length f ≡ length g → ev O (minus f g) a ⊕ ev O g a ≡ ev O f a
  minus_ev [] [] a l = 𝓚.add_zero 𝟘
  minus_ev [] (d ∷ g) a l = absurd (omega arith)
  minus_ev (c ∷ f) [] a l = absurd (omega arith)
  minus_ev (c ∷ f) (d ∷ g) a l = step (c ⊖ d) (ev O (minus f g) a) (ev O g a) (ev O f a) (𝓚.sub_add c d) (minus_ev f g a (omega arith))
    where
      step : (n x y z : K) → n ⊕ d ≡ c → x ⊕ y ≡ z → (n ⊕ a ⊗ x) ⊕ (d ⊕ a ⊗ y) ≡ c ⊕ a ⊗ z
      step n x y z e h = via (λ k. k ⊕ a ⊗ (x ⊕ y)) e (simp (ring, 𝓚)) (ap (λ k. c ⊕ a ⊗ k) h)

  minus_zero : (f g : List K) → length f ≡ length g → AllZero O (minus f g) → f ≡ g
  minus_zero [] [] l t = refl
  minus_zero [] (d ∷ g) l t = absurd (omega arith)
  minus_zero (c ∷ f) [] l t = absurd (omega arith)
  minus_zero (c ∷ f) (d ∷ g) l t =
      λ i. (sym (𝓚.sub_add c d) ∙ ap (λ x. x ⊕ d) t.0 ∙ zero_add 𝓚 d) i ∷ minus_zero f g (omega arith) t.1 i

  minus_length : (f g : List K) → length f ≡ length g → length (minus f g) ≡ length f
  minus_length [] g l = refl
  minus_length (c ∷ f) [] l = absurd (omega arith)
  minus_length (c ∷ f) (d ∷ g) l = ap suc (minus_length f g (omega arith))

  pub unique : (k : ℕ) → Unique 𝓕 k k
  unique k f g points lf lg d n t =
      minus_zero f g (lf ∙ sym lg)
      (vanish 𝓚 (cancel 𝓕) points 1 (minus f g) d
      (each_map (λ a e. (add_cancel 𝓚 (ev O (minus f g) a) 𝟘 (ev O g a) (minus_ev f g a (lf ∙ sym lg) ∙ e ∙ sym (zero_add 𝓚 (ev O g a))), tt)) points t)
      (omega (arith, minus_length f g (lf ∙ sym lg))))
