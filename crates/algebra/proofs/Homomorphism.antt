-- A map that keeps the operations carries polynomials, series, curves and their derivatives along.
use Rattle.std.proofs.Common.{◌≡◌, ℕ, zero, suc, ◌+◌, ◌-◌, Bool, true, false, cond, ltb, List, [], ◌∷◌, map, refl, ap, ◌∙◌, ap₂}
use mathlib.Core.Path.{fun_ext}
use Rattle.algebra.specs.Ring.{Ops}
use Rattle.algebra.specs.Series.{ev, poly, tail, smul, series, coefficients}
use Rattle.algebra.specs.Curve.{Table, choose, sum, times, power, term, hasse, row, weight, dot, discrepancy}
use Rattle.algebra.specs.Interpolation.{up, linear, mix}
use Rattle.algebra.specs.Walk.{shifted, raised, stretched, moved}

-- The map φ keeps the operations.
pub record Hom {R S : Type 0} (O : Ops R) (P : Ops S) (φ : R → S) : Type 0 where
  pub on_zero : φ O.zero ≡ P.zero
  pub on_one : φ O.one ≡ P.one
  pub on_add : (a b : R) → φ (O.add a b) ≡ P.add (φ a) (φ b)
  pub on_sub : (a b : R) → φ (O.sub a b) ≡ P.sub (φ a) (φ b)
  pub on_mul : (a b : R) → φ (O.mul a b) ≡ P.mul (φ a) (φ b)

module _ {R S : Type 0} {O : Ops R} {P : Ops S} {φ : R → S} (h : Hom O P φ) where
  -- The curve of the images.
  abbrev pub image : Table R → Table S
  image c i j = φ (c i j)

  pub hom_ev : (f : List R) (a : R) → φ (ev O f a) ≡ ev P (map φ f) (φ a)
  hom_ev [] a = h.on_zero
  hom_ev (c ∷ f) a = h.on_add c (O.mul a (ev O f a)) ∙ ap (P.add (φ c)) (h.on_mul a (ev O f a) ∙ ap (P.mul (φ a)) (hom_ev f a))

  pub hom_poly : (n : ℕ) (p : ℕ → R) (y : R) → φ (poly O n p y) ≡ poly P n (λ j. φ (p j)) (φ y)
  hom_poly zero p y = h.on_zero
  hom_poly (suc n) p y =
      h.on_add (p 0) (O.mul y (poly O n (λ j. p (suc j)) y)) ∙ ap (P.add (φ (p 0))) (h.on_mul y (poly O n (λ j. p (suc j)) y) ∙ ap (P.mul (φ y)) (hom_poly n (λ j. p (suc j)) y))

  hom_smul : (f g : ℕ → R) (n : ℕ) → φ (smul O f g n) ≡ smul P (λ i. φ (f i)) (λ i. φ (g i)) n
  hom_smul f g zero = h.on_mul (f 0) (g 0)
  hom_smul f g (suc n) = h.on_add (O.mul (f 0) (g (suc n))) (smul O (tail f) g n) ∙ ap₂ P.add (h.on_mul (f 0) (g (suc n))) (hom_smul (tail f) g n)

  pub hom_series : (n : ℕ) (p : ℕ → ℕ → R) (y : ℕ → R) (i : ℕ) → φ (poly (series O) n p y i) ≡ poly (series P) n (λ j i. φ (p j i)) (λ i. φ (y i)) i
  hom_series zero p y i = h.on_zero
  hom_series (suc n) p y i =
      h.on_add (p 0 i) (smul O y (poly (series O) n (λ j. p (suc j)) y) i)
      ∙ ap (P.add (φ (p 0 i))) (hom_smul y (poly (series O) n (λ j. p (suc j)) y) i ∙ ap (λ s. smul P (λ i. φ (y i)) s i) (fun_ext (hom_series n (λ j. p (suc j)) y)))

  pub hom_coefficients : (f : List R) (n : ℕ) → φ (coefficients O f n) ≡ coefficients P (map φ f) n
  hom_coefficients [] n = h.on_zero
  hom_coefficients (c ∷ f) zero = refl
  hom_coefficients (c ∷ f) (suc n) = hom_coefficients f n

  hom_cond : (b : Bool) (x y : R) → φ (cond b x y) ≡ cond b (φ x) (φ y)
  hom_cond true x y = refl
  hom_cond false x y = refl

  pub hom_row : (X : ℕ) (c : Table R) (j i : ℕ) → φ (row O X c j i) ≡ row P X (image c) j i
  unfolding row
  hom_row X c j i = hom_cond (ltb i X) (c i j) O.zero ∙ ap (cond (ltb i X) (φ (c i j))) h.on_zero

  hom_sum : (n : ℕ) (f : ℕ → R) → φ (sum O n f) ≡ sum P n (λ i. φ (f i))
  unfolding sum
  hom_sum zero f = h.on_zero
  hom_sum (suc n) f = h.on_add (sum O n f) (f n) ∙ ap (λ x. P.add x (φ (f n))) (hom_sum n f)

  hom_times : (n : ℕ) (x : R) → φ (times O n x) ≡ times P n (φ x)
  unfolding times
  hom_times zero x = h.on_zero
  hom_times (suc n) x = h.on_add (times O n x) x ∙ ap (λ y. P.add y (φ x)) (hom_times n x)

  hom_power : (a : R) (n : ℕ) → φ (power O a n) ≡ power P (φ a) n
  unfolding power
  hom_power a zero = h.on_one
  hom_power a (suc n) = h.on_mul a (power O a n) ∙ ap (P.mul (φ a)) (hom_power a n)

  hom_term : (a b : R) (u w : ℕ) (c : Table R) (i j : ℕ) → φ (term O a b u w c i j) ≡ term P (φ a) (φ b) u w (image c) i j
  unfolding term
  hom_term a b u w c i j =
      h.on_mul _ _ ∙ ap₂ P.mul
      (h.on_mul _ _ ∙ ap₂ P.mul (h.on_mul _ _ ∙ ap (λ x. P.mul x (φ (c i j))) (h.on_mul _ _ ∙ ap₂ P.mul (ones (choose i u)) (ones (choose j w)))) (hom_power a (i - u)))
      (hom_power b (j - w))
    where
      ones : (n : ℕ) → φ (times O n O.one) ≡ times P n P.one
      ones n = hom_times n O.one ∙ ap (times P n) h.on_one

  pub hom_hasse : (X Y : ℕ) (a b : R) (u w : ℕ) (c : Table R) → φ (hasse O X Y a b u w c) ≡ hasse P X Y (φ a) (φ b) u w (image c)
  unfolding hasse
  hom_hasse X Y a b u w c =
      hom_sum Y _ ∙ ap (sum P Y) (fun_ext (λ j. hom_sum X _ ∙ ap (sum P X) (fun_ext (λ i. hom_term a b u w c i j))))

  hom_weight : (a : R) (u i : ℕ) → φ (weight O a u i) ≡ weight P (φ a) u i
  unfolding weight
  hom_weight a zero zero = h.on_one
  hom_weight a (suc u) zero = h.on_zero
  hom_weight a zero (suc i) = h.on_mul a (weight O a zero i) ∙ ap (P.mul (φ a)) (hom_weight a zero i)
  hom_weight a (suc u) (suc i) =
      h.on_add _ _ ∙ ap₂ P.add (h.on_mul a (weight O a (suc u) i) ∙ ap (P.mul (φ a)) (hom_weight a (suc u) i)) (hom_weight a u i)

  hom_dot : (n : ℕ) (k f : ℕ → R) → φ (dot O n k f) ≡ dot P n (λ i. φ (k i)) (λ i. φ (f i))
  unfolding dot
  hom_dot n k f = hom_sum n _ ∙ ap (sum P n) (fun_ext (λ i. h.on_mul (k i) (f i)))

  pub hom_discrepancy : (X Y : ℕ) (a b : R) (u w : ℕ) (c : Table R) → φ (discrepancy O X Y a b u w c) ≡ discrepancy P X Y (φ a) (φ b) u w (image c)
  unfolding discrepancy
  hom_discrepancy X Y a b u w c =
      hom_dot Y (weight O b w) _
      ∙ ap₂ (dot P Y) (fun_ext (hom_weight b w)) (fun_ext (λ j. hom_dot X (weight O a u) (λ i. c i j) ∙ ap (λ k. dot P X k (λ i. φ (c i j))) (fun_ext (hom_weight a u))))

  hom_up : (f : ℕ → R) (i : ℕ) → φ (up O f i) ≡ up P (λ k. φ (f k)) i
  unfolding up
  hom_up f zero = h.on_zero
  hom_up f (suc i) = refl

  pub hom_linear : (a : R) (c : Table R) (i j : ℕ) → φ (linear O a c i j) ≡ linear P (φ a) (image c) i j
  unfolding linear
  hom_linear a c i j = h.on_sub _ _ ∙ ap₂ P.sub (hom_up (λ k. c k j) i) (h.on_mul a (c i j))

  pub hom_mix : (d : R) (c : Table R) (e : R) (g : Table R) (i j : ℕ) → φ (mix O d c e g i j) ≡ mix P (φ d) (image c) (φ e) (image g) i j
  unfolding mix
  hom_mix d c e g i j = h.on_sub _ _ ∙ ap₂ P.sub (h.on_mul d (c i j)) (h.on_mul e (g i j))

  pub hom_shifted : (X m : ℕ) (c : Table R) → image (shifted O X m c) ≡ shifted P X m (image c)
  hom_shifted X m c = fun_ext (λ i. fun_ext (λ j. hom_row X c j (m + i)))

  hom_raised : (old c : Table R) (k i j : ℕ) → φ (raised O old c k i j) ≡ raised P (image old) (image c) k i j
  hom_raised old c k i zero = refl
  hom_raised old c k zero (suc j) = h.on_zero
  hom_raised old c k (suc i) (suc j) = refl

  pub hom_moved : (g : R) (c : Table R) (n k : ℕ) → image (moved O g c n k) ≡ moved P (φ g) (image c) n k
  hom_moved g c zero k = fun_ext (λ i. fun_ext (λ j. h.on_zero))
  hom_moved g c (suc n) k =
      fun_ext (λ i. fun_ext (λ j.
      h.on_add _ _ ∙ ap₂ P.add (h.on_mul g (moved O g c n (suc k) i j)) (hom_raised (moved O g c n (suc k)) c k i j)))
      ∙ ap (λ old. stretched P (φ g) old (image c) k) (hom_moved g c n (suc k))
