-- A fitted curve exists wherever the monomials exceed the conditions: the method is run on tables that are functions.
use Rattle.std.proofs.Common.{◌≡◌, ℕ, zero, suc, ◌+◌, ◌-◌, ◌*◌, ◌/◌, ◌<◌, ◌≤◌, ◌≢◌, ◌⊎◌, sym, refl, ap, ◌∙◌, subst, inl, inr, ⊎_elim, arith}
use native.Mathlib.Decide.{dec_le, ℕ_discrete}
use Rattle.algebra.specs.Ring.{Field}
use Rattle.algebra.specs.Curve.{Table, discrepancy}
use Rattle.algebra.specs.Interpolation.{key, y_power, linear, mix, PairsDone, ColumnsDone, PlacesDone, Step}
use Rattle.algebra.specs.Recovery.{StepKeeps, RunEnds, Interpolates}
use Rattle.algebra.proofs.Runs.{pairs_start, columns_start, places_start, places_idle, places_step, columns_next, pairs_next, live_fitted, not_all_dead}

-- One value or the other, by a decision.
pick : {A P : Type 0} → Dec P → A → A → A
pick (yes p) a b = a
pick (no p) a b = b

pick_yes : {A P : Type 0} (d : Dec P) (a b : A) → P → pick d a b ≡ a
unfolding pick
pick_yes (yes p) a b h = refl
pick_yes (no p) a b h = absurd (p h)

pick_no : {A P : Type 0} (d : Dec P) (a b : A) → ¬ P → pick d a b ≡ b
unfolding pick
pick_no (yes p) a b h = absurd (h p)
pick_no (no p) a b h = refl

-- The least by k of those below n with P.
abbrev Best : (P : ℕ → Type 0) (k : ℕ → ℕ) (n : ℕ) → Type 0
Best P k n = (p : ℕ) × (p < n) × P p × ((j : ℕ) → j < n → P j → k p ≤ k j)

-- There is a least one, or none at all.
best : (P : ℕ → Type 0) → ((j : ℕ) → Dec (P j)) → (k : ℕ → ℕ) (n : ℕ) → Best P k n ⊎ ((j : ℕ) → j < n → ¬ P j)
best P dec k zero = inr (λ j l _. omega arith)
best P dec k (suc n) = go (dec n) (best P dec k n)
  where
    last : (Q : ℕ → Type 0) → ((j : ℕ) → j < n → Q j) → Q n → (j : ℕ) → j < suc n → Q j
    last Q f q j l = elim (ℕ_discrete j n) [ yes e ↦ subst Q (sym e) q | no ne ↦ f j (omega arith) ]

    go : Dec (P n) → Best P k n ⊎ ((j : ℕ) → j < n → ¬ P j) → Best P k (suc n) ⊎ ((j : ℕ) → j < suc n → ¬ P j)
    go (no h) (inr f) = inr (last (λ j. ¬ P j) f h)
    go (no h) (inl b) = inl (b.0, let l = b.1 in omega arith, b.2, last (λ j. P j → k b.0 ≤ k j) b.3 (λ q. absurd (h q)))
    go (yes h) (inr f) = inl (n, omega arith, h, last (λ j. P j → k n ≤ k j) (λ j l q. absurd (f j l q)) (λ _. omega arith))
    go (yes h) (inl b) =
        elim (dec_le (k b.0) (k n)) [
          | yes l ↦ inl (b.0, let t = b.1 in omega arith, b.2, last (λ j. P j → k b.0 ≤ k j) b.3 (λ _. l))
          | no l ↦ inl (n, omega arith, h, last (λ j. P j → k n ≤ k j) (λ j t q. let s = b.3 j t q in omega arith) (λ _. omega arith))
        ]

not_dec : {A : Type 0} → Dec A → Dec (¬ A)
not_dec (yes a) = no (λ f. f a)
not_dec (no f) = yes f

both : {A B : Type 0} → Dec A → Dec B → Dec (A × B)
both (yes a) (yes b) = yes (a, b)
both (yes a) (no b) = no (λ p. b p.1)
both (no a) d = no (λ p. a p.0)

-- A table of curves and their leads with a property.
record Found {K : Type 0} (P : (ℕ → Table K) → (ℕ → ℕ) → Type 0) : Type 0 where
  curves : ℕ → Table K
  lead : ℕ → ℕ
  holds : P curves lead

module _ {K : Type 0} (𝓕 : Field K) (X Y v D : ℕ) (fits : D < X) where
  open 𝓕 use {ring as 𝓚, same}
  open 𝓚 use {ops as O}

  module _ (a b : K) (u w p : ℕ) (curves : ℕ → Table K) (lead : ℕ → ℕ) where
    -- The discrepancy of the curve j.
    abbrev d : ℕ → K
    d j = discrepancy O X Y a b u w (curves j)

    -- The next table, with the pivot p.
    next_curves : ℕ → Table K
    next_curves j = pick (ℕ_discrete j p) (linear O a (curves p)) (pick (same (d j) O.zero) (curves j) (mix O (d p) (curves j) (d j) (curves p)))

    next_lead : ℕ → ℕ
    next_lead j = pick (ℕ_discrete j p) (suc (lead p)) (lead j)

    step_made : p < Y → lead p + v * p ≤ D → d p ≢ O.zero → ((j : ℕ) → j < Y → lead j + v * j ≤ D → d j ≢ O.zero → key Y v (lead p) p ≤ key Y v (lead j) j) →
        Step O X Y v D a b u w p curves lead next_curves next_lead
    unfolding next_curves next_lead
    step_made lt live off least =
        record {
          in_table = lt;
          live = live;
          off = off;
          least = least;
          moved = pick_yes (ℕ_discrete p p) _ _ refl;
          stay = λ j l ne. pick_no (ℕ_discrete j p) _ _ ne;
          lifted = λ _ i k _ _. ap (λ (c : Table K). c i k) (pick_yes (ℕ_discrete p p) _ _ refl);
          others = λ j l ne lv. elim (same (d j) O.zero) [
            | yes z ↦ inl (z, λ i k _ _. ap (λ (c : Table K). c i k) (pick_no (ℕ_discrete j p) _ _ ne ∙ pick_yes (same (d j) O.zero) _ _ z))
            | no z ↦ inr (z, λ i k _ _. ap (λ (c : Table K). c i k) (pick_no (ℕ_discrete j p) _ _ ne ∙ pick_no (same (d j) O.zero) _ _ z))
          ];
        }

  module _ (r : ℕ) (xs ys : ℕ → K) where
    -- How far the run has come.
    abbrev Pairs : (t : ℕ) (curves : ℕ → Table K) (lead : ℕ → ℕ) → Type 0
    Pairs = PairsDone O X Y v D r xs ys

    abbrev Columns : (t w : ℕ) (curves : ℕ → Table K) (lead : ℕ → ℕ) → Type 0
    Columns = ColumnsDone O X Y v D r xs ys

    abbrev Places : (t w u : ℕ) (curves : ℕ → Table K) (lead : ℕ → ℕ) → Type 0
    Places = PlacesDone O X Y v D r xs ys

    -- One condition more.
    place : (t w u : ℕ) → Found (Places t w u) → Found (Places t w (suc u))
    place t w u f = ⊎_elim one none (best Fails fails? (λ j. key Y v (f.lead j) j) Y)
      where
        Fails : ℕ → Type 0
        Fails j = (f.lead j + v * j ≤ D) × (discrepancy O X Y (xs t) (ys t) u w (f.curves j) ≢ O.zero)

        fails? : (j : ℕ) → Dec (Fails j)
        fails? j = both (dec_le _ _) (not_dec (same _ _))

        one : Best Fails (λ j. key Y v (f.lead j) j) Y → Found (Places t w (suc u))
        one b = record {
          curves = next_curves (xs t) (ys t) u w b.0 f.curves f.lead;
          lead = next_lead (xs t) (ys t) u w b.0 f.curves f.lead;
          holds = places_step 𝓕 X Y v D r fits xs ys t w u b.0 f.curves f.lead _ _
              (step_made (xs t) (ys t) u w b.0 f.curves f.lead b.1 b.2.0 b.2.1 (λ j l lv ne. b.3 j l (lv, ne))) f.holds;
        }

        none : ((j : ℕ) → j < Y → ¬ Fails j) → Found (Places t w (suc u))
        none g = record {
          curves = f.curves;
          lead = f.lead;
          holds = places_idle O X Y v D r xs ys t w u f.curves f.lead
              (λ j l lv. elim (same (discrepancy O X Y (xs t) (ys t) u w (f.curves j)) O.zero) [ yes z ↦ z | no z ↦ absurd (g j l (lv, z)) ]) f.holds;
        }

    places : (t w u : ℕ) → Found (Columns t w) → Found (Places t w u)
    places t w zero f = record { curves = f.curves; lead = f.lead; holds = places_start O X Y v D r xs ys t w f.curves f.lead f.holds }
    places t w (suc u) f = place t w u (places t w u f)

    columns : (t w : ℕ) → Found (Pairs t) → Found (Columns t w)
    columns t zero f = record { curves = f.curves; lead = f.lead; holds = columns_start O X Y v D r xs ys t f.curves f.lead f.holds }
    columns t (suc w) f =
        let g = places t w (r - w) (columns t w f) in
        record { curves = g.curves; lead = g.lead; holds = columns_next O X Y v D r xs ys t w g.curves g.lead g.holds }

    run : (N : ℕ) → Found (Pairs N)
    run zero = record { curves = y_power O; lead = λ j. 0; holds = pairs_start O X Y v D r xs ys 𝓕.distinct (omega arith) (y_power O) (λ j. 0) (λ j l. refl) (λ j l i k _ _. refl) }
    run (suc t) =
        let g = columns t r (run t) in
        record { curves = g.curves; lead = g.lead; holds = pairs_next O X Y v D r xs ys t g.curves g.lead g.holds }

module _ {K : Type 0} (𝓕 : Field K) where
  open 𝓕 use {ring as 𝓚}
  open 𝓚 use {ops as O}

  pub step_keeps : (X D : ℕ) → D < X → StepKeeps 𝓕 X D
  step_keeps X D fits Y v r t w u p xs ys = places_step 𝓕 X Y v D r fits xs ys t w u p

  pub run_ends : (r N : ℕ) → RunEnds 𝓕 r N (N * r * (r + 1) / 2)
  run_ends r N X Y v D xs ys curves lead fits h more = record {
    live = ⊎_elim
        (λ b. (b.0, b.1, b.2))
        (λ f. absurd (not_all_dead O X Y v D r xs ys N curves lead h more (λ j l. let x = f j l in omega arith)))
        (best (λ j. lead j + v * j ≤ D) (λ j. dec_le _ _) (λ _. 0) Y);
    fitted = λ j. live_fitted 𝓕 X Y v D r fits xs ys N j curves lead h;
  }

  pub interpolates : (r N : ℕ) → Interpolates 𝓕 r N (N * r * (r + 1) / 2)
  interpolates r N X Y v D xs ys fits more =
      let f = run 𝓕 X Y v D fits r xs ys N in
      let e = run_ends r N X Y v D xs ys f.curves f.lead fits f.holds more in
      let j = e.live in
      (f.curves j.0, e.fitted j.0 j.1 j.2)
