-- The theorems of list recovery for codes, from those over a field.
use Rattle.std.proofs.Common.{◌≡◌, ℕ, zero, suc, ◌+◌, ◌-◌, ◌*◌, ◌/◌, ◌<◌, ◌≤◌, List, [], ◌∷◌, map, length, sym, ap, ◌∙◌, subst, arith}
use mathlib.Core.Path.{fun_ext}
use Rattle.algebra.specs.Ring.{Ops}
use Rattle.algebra.specs.Field.{Meaning, Laws, codes}
use Rattle.algebra.specs.Series.{ev, poly}
use Rattle.algebra.specs.Curve.{Table, DegreeBelow, Lies}
use Rattle.algebra.specs.Interpolation.{Same, PairsDone, PlacesDone, Fitted}
use Rattle.algebra.specs.Walk.{Clear, shifted, bottom, moved, Met}
use Rattle.algebra.specs.CodeRecovery.{Coded, CodedTable, at, score, CodeVanishing, CodeFew, CodeUnique, CodeStepKeeps, CodeRunEnds, CodeInterpolates, CodeWalkMeets, CodeListBound}
use Rattle.algebra.proofs.Lists.{each_map, each_over, each_both, distinct_map, length_map}
use Rattle.algebra.proofs.Elements.{Element, decode, field, decode_code}
use Rattle.algebra.proofs.Homomorphism.{hom_poly, hom_shifted, hom_moved}
use Rattle.algebra.proofs.Carried.{P, elements, decode_hom, some, same_code, zero_code, code_zero, tell, value_is, passed_agreed, lies_up, lies_down, degree_up, degree_down, nonzero_up, through_up, fitted_down, all_alike, upto_alike, column_alike, inv_up, inv_down, step_up}
use Rattle.algebra.proofs.Vanishing.{vanishing, unique}
use Rattle.algebra.proofs.Roots.{few}
use Rattle.algebra.proofs.Runs.{places_step}
use Rattle.algebra.proofs.Interpolation.{run_ends, interpolates}
use Rattle.algebra.proofs.Rows.{row_in}
use Rattle.algebra.proofs.Walk.{lies_same, shifted_lies, root, moved_lies, moved_degree, walk_meets}

module _ (F : Meaning) (L : Laws F) where
  -- Shorter names: the operations on codes and on elements, the element that a code stands for, the curve of the elements.
  abbrev C : Ops ℕ
  C = codes F

  abbrev P' : Ops (Element F.size)
  P' = P F L

  abbrev ε : Table ℕ → Table (Element F.size)
  ε = elements F L

  abbrev d : ℕ → Element F.size
  d = decode F L

  pub code_vanishing : (r t : ℕ) → CodeVanishing F r t (r * t)
  unfolding score
  code_vanishing r t X Y v c f xs ys lf low pairs meets h =
      lies_down F L X Y c f
      (vanishing (field F L) r t X Y v (length xs) (ε c) (map d f) (λ t. d (at xs t)) (λ t. d (at ys t))
      (length_map d f ∙ lf) (degree_up F L X Y v (r * t) c low)
      (λ s t o l ex ey. pairs.apart s t o l
      (same_code F L _ _ (pairs.low_x s (omega arith)) (pairs.low_x t l) ex) (same_code F L _ _ (pairs.low_y s (omega arith)) (pairs.low_y t l) ey))
      (through_up F L X Y r (length xs) (at xs) (at ys) c meets)
      (let p = passed_agreed F L f xs ys (length xs) in omega arith))

  pub code_few : (Y : ℕ) → CodeFew F Y Y
  code_few Y X k c fs coded nz each apart on =
      let n = length_map (map d) fs in
      let b = few (field F L) Y X k (ε c) (map (map d) fs) (nonzero_up F L X Y c coded nz)
      (each_over (λ f. length f ≡ k) (map d) fs (each_map (λ f e. length_map d f ∙ e.1) fs each))
      (distinct_map (Coded F) (map d) fs (tell F L) (each_map (λ f e. e.0) fs each) apart)
      (each_over (Lies P' X Y (ε c)) (map d) fs (each_map (λ f z. lies_up F L X Y c f z) fs on)) in
      omega arith

  pub code_unique : (k : ℕ) → CodeUnique F k k
  code_unique k f g points cf cg cp lf lg apart n agree =
      tell F L f g cf cg
      (unique (field F L) k (map d f) (map d g) (map d points) (length_map d f ∙ lf) (length_map d g ∙ lg)
      (distinct_map (λ a. a < F.size) d points (same_code F L) cp apart)
      (let m = length_map d points in omega arith)
      (each_over (λ a. ev P' (map d f) a ≡ ev P' (map d g) a) d points
      (each_map (λ a e. sym (value_is F L f a) ∙ ap d e ∙ value_is F L g a) points agree)))

  -- Interpolation.
  pub code_step_keeps : (X D : ℕ) → D < X → CodeStepKeeps F X D
  unfolding PlacesDone
  code_step_keeps X D fits Y v r t w u p xs ys curves lead curves' lead' coded coded' s h =
      let S = upto_alike F L _ _ (all_alike F L xs ys r t) (xs t) (ys t) r w in
      inv_down F L X Y v D _ _ (column_alike F L _ _ S (xs t) (ys t) w (suc u)) _ curves' lead' coded'
      (places_step (field F L) X Y v D r fits (λ t. d (xs t)) (λ t. d (ys t)) t w u p (λ j. ε (curves j)) lead (λ j. ε (curves' j)) lead'
      (step_up F L X Y v D (xs t) (ys t) u w p curves lead curves' lead' s)
      (inv_up F L X Y v D _ _ (column_alike F L _ _ S (xs t) (ys t) w u) _ curves lead coded h))

  pub code_run_ends : (r N : ℕ) → CodeRunEnds F r N (N * r * (r + 1) / 2)
  unfolding PairsDone
  code_run_ends r N X Y v D xs ys curves lead coded fits h more =
      let e = run_ends (field F L) r N X Y v D (λ t. d (xs t)) (λ t. d (ys t)) (λ j. ε (curves j)) lead fits
      (inv_up F L X Y v D _ _ (all_alike F L xs ys r N) _ curves lead coded h) more in
      record { live = e.live; fitted = λ j l lv. fitted_down F L X Y v D r N xs ys (curves j) (coded j) (e.fitted j l lv) }

  pub code_interpolates : (r N : ℕ) → CodeInterpolates F r N (N * r * (r + 1) / 2)
  code_interpolates r N X Y v D xs ys fits more =
      let e = interpolates (field F L) r N X Y v D (λ t. d (xs t)) (λ t. d (ys t)) fits more in
      let c : Table ℕ = λ i j. (e.0 i j).code in
      let coded : CodedTable F c = λ i j. (e.0 i j).below in
      let is : e.0 ≡ ε c = fun_ext (λ i. fun_ext (λ j. sym (decode_code F L (e.0 i j)))) in
      (c, coded, fitted_down F L X Y v D r N xs ys c coded (subst (Fitted P' X Y v D r N (λ t. d (xs t)) (λ t. d (ys t))) is e.1))

  -- The steps of the walk, on codes.
  module _ (X Y : ℕ) where
    pub code_lies_same : (c e : Table ℕ) → Same X Y e c → (f : List ℕ) → Lies C X Y c f → Lies C X Y e f
    code_lies_same c e s f z = lies_down F L X Y e f (lies_same (field F L).ring X Y (ε c) (ε e) (λ i j hi hj. ap d (s i j hi hj)) (map d f) (lies_up F L X Y c f z))

    pub code_shifted_lies : (m : ℕ) (c : Table ℕ) → Clear C Y m c → (f : List ℕ) → Lies C X Y c f → Lies C X Y (shifted C X m c) f
    code_shifted_lies m c clear f z =
        lies_down F L X Y (shifted C X m c) f
        (subst (λ e. Lies P' X Y e (map d f)) (sym (hom_shifted (decode_hom F L) X m c))
        (shifted_lies (field F L).ring X Y m (ε c) (λ i h j l. code_zero F L _ (clear i h j l)) (map d f) (lies_up F L X Y c f z)))

    bottom_below : (n : ℕ) (p : ℕ → ℕ) (y : ℕ) → poly C n p y < F.size
    bottom_below zero p y = some F L
    bottom_below (suc n) p y = L.sum_below _ _

    pub code_root : 0 < X → (c : Table ℕ) (g : ℕ) (f : List ℕ) → Lies C X Y c (g ∷ f) → bottom C Y c g ≡ 0
    code_root pos c g f z =
        zero_code F L _ (bottom_below Y (λ j. c 0 j) g)
        (hom_poly (decode_hom F L) Y (λ j. c 0 j) g
        ∙ root (field F L).ring X Y (ε c) (λ j. row_in P' X (ε c) j 0 pos) (d g) (map d f) (lies_up F L X Y c (g ∷ f) z))

    pub code_moved_lies : (w g : ℕ) (c : Table ℕ) → DegreeBelow C X Y (w + 1) X c → (f : List ℕ) → Lies C X Y c (g ∷ f) → Lies C X Y (moved C g c Y 0) f
    code_moved_lies w g c low f z =
        lies_down F L X Y (moved C g c Y 0) f
        (subst (λ e. Lies P' X Y e (map d f)) (sym (hom_moved (decode_hom F L) g c Y 0))
        (moved_lies (field F L).ring X Y w (d g) (ε c) (degree_up F L X Y (w + 1) X c low) (map d f) (lies_up F L X Y c (g ∷ f) z)))

    moved_coded : (g : ℕ) (c : Table ℕ) (n k : ℕ) → CodedTable F (moved C g c n k)
    moved_coded g c zero k i j = some F L
    moved_coded g c (suc n) k i j = L.sum_below _ _

    pub code_moved_degree : (w g : ℕ) (c : Table ℕ) → DegreeBelow C X Y (w + 1) X c → DegreeBelow C X Y w X (moved C g c Y 0)
    code_moved_degree w g c low =
        degree_down F L X Y w X (moved C g c Y 0) (moved_coded g c Y 0)
        (subst (DegreeBelow P' X Y w X) (sym (hom_moved (decode_hom F L) g c Y 0))
        (moved_degree (field F L).ring X Y w (d g) (ε c) (degree_up F L X Y (w + 1) X c low)))

    met_down : (f : List ℕ) (c : Table ℕ) → Met P' X Y (map d f) (ε c) → Met C X Y f c
    met_down [] c t = tt
    met_down (g ∷ f) c t = λ m clear.
        let e = shifted C X m c in
        let q = hom_shifted (decode_hom F L) X m c in
        let s = t m (λ i h j l. code_zero F L _ (clear i h j l)) in (
          zero_code F L _ (bottom_below Y (λ j. e 0 j) g) (hom_poly (decode_hom F L) Y (λ j. e 0 j) g ∙ ap (λ b. bottom P' Y b (d g)) q ∙ s.0),
          met_down f (moved C g e Y 0)
              (subst (Met P' X Y (map d f)) (ap (λ b. moved P' (d g) b Y 0) (sym q) ∙ sym (hom_moved (decode_hom F L) g e Y 0)) s.1),
        )

    pub code_walk_meets : CodeWalkMeets F X Y X
    code_walk_meets c f low z =
        met_down f c (walk_meets (field F L) X Y (ε c) (map d f)
        (degree_up F L X Y (length (map d f) - 1) X c (subst (λ n. DegreeBelow C X Y (n - 1) X c) (sym (length_map d f)) low)) (lies_up F L X Y c f z))

  -- A curve exists, everything that agrees lies on it, and few lie on it.
  pub code_list_bound : (r t Y : ℕ) → CodeListBound F r t Y Y
  code_list_bound r t Y v xs ys fs pairs pos more each apart agree =
      let e = code_interpolates r (length xs) (r * t) Y v (r * t - 1) (at xs) (at ys) (omega arith) more in
      let fit = e.2 in
      let one : suc (r * t - 1) ≡ r * t = omega arith in
      code_few Y (r * t) (suc v) e.0 fs e.1 fit.some each apart
      (each_map (λ f q. code_vanishing r t (r * t) Y v e.0 f xs ys q.0.1 (subst (λ m. DegreeBelow C (r * t) Y v m e.0) one fit.within) pairs fit.through q.1) fs
      (each_both (λ f. Coded F f × (length f ≡ suc v)) (λ f. t ≤ score F xs ys f) fs each agree))
