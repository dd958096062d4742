-- The steps of the descent.
use Rattle.std.proofs.Common.{◌≡◌, ℕ, suc, ◌+◌, ◌-◌, ◌*◌, ◌<◌, ◌≤◌, true, false, eqb, List, [], ◌∷◌, ◌++◌, length, take, Some, None, Option, mul-le-mul_left, sym, ap, ◌∙◌, subst, ap₂, subst₂, arith, false-eqb}
use Rattle.std.proofs.lemmas.List.{append_assoc, append-nil, length-append, length-take-le, take-take, get_or-take}
use Rattle.algebra.specs.Field.{Meaning, Laws, codes}
use Rattle.algebra.specs.Polynomial.{value}
use Rattle.algebra.specs.Curve.{DegreeBelow}
use Rattle.algebra.specs.Walk.{moved, bottom}
use Rattle.algebra.specs.CodeRecovery.{table}
use Rattle.algebra.proofs.CodeRecovery.{code_lies_same, code_root, code_moved_lies, code_moved_degree}
use Rattle.code.proofs.Alone.{row_cons}
use Rattle.interpolation.specs.declared.pairs.Pair.{Pair}
use Rattle.interpolation.specs.Pairs.{points, values}
use Rattle.interpolation.specs.Size.{columns}
use Rattle.interpolation.specs.declared.region.Region.{Region}
use Rattle.interpolation.specs.Steps.{lighter, Light, Lowered, FootOf, Moved}
use Rattle.interpolation.specs.Recovered.{passes}
use Rattle.interpolation.specs.Walk.{chosen, extended, Covers, Descent, Held, Stored, Adds}
use Rattle.interpolation.proofs.Divisions.{lowered_lies, lowered_light, bottom_value}
use Rattle.interpolation.proofs.Orders.{upto, upto_all, extended_none, chosen_more, chosen_fewer, chosen_none}

pub adds_more : (k : ℕ) (A B C : List (List ℕ)) (b₀ b₁ b₂ : List ℕ) (n₀ n₁ : ℕ) (a : Option ℕ) → C ≡ A ++ B → Adds k A b₀ n₀ b₁ (Some n₁) → Adds k B b₁ n₁ b₂ a → Adds k C b₀ n₀ b₂ a
adds_more k A B C b₀ b₁ b₂ n₀ n₁ a e f g l h = subst (λ z. Stored k z b₂ a) (append_assoc l A B ∙ ap (λ z. l ++ z) (sym e)) (g (l ++ A) (f l h))

pub adds_none : (k : ℕ) (C : List (List ℕ)) (b : List ℕ) (n : ℕ) → C ≡ [] → Adds k C b n b (Some n)
adds_none k C b n e l h = subst (λ z. Held k z b n) (sym (append-nil l) ∙ ap (λ z. l ++ z) (sym e)) h

-- what does not fit does not with more after it
pub adds_over : (k : ℕ) (A C : List (List ℕ)) (b₀ b₁ : List ℕ) (n : ℕ) → length A ≤ length C → Adds k A b₀ n b₁ None → Adds k C b₀ n b₁ None
adds_over k A C b₀ b₁ n h f l s =
    let o = f l s in
    let a = length-append l A in
    let c = length-append l C in
    let z : length (l ++ A) ≤ length (l ++ C) = omega arith in
    let m = mul-le-mul_left k z in
    omega arith

-- At the end of a polynomial.
pub leaf_held : (F : Meaning) (t : ℕ) (ps : List Pair) (k depth : ℕ) (pre b b' : List ℕ) (n : ℕ) (a : Option ℕ) → depth ≡ k → depth ≤ length pre
    → Adds (length (take depth pre)) (chosen F t ps (take depth pre ∷ [])) b n b' a → Adds k (chosen F t ps (extended F.size (take depth pre) (k - depth))) b n b' a
leaf_held F t ps k depth pre b b' n a e h f =
    subst₂ (λ n' z. Adds n' (chosen F t ps z) b n b' a) (length-take-le depth pre h ∙ e)
    (sym (extended_none F.size (take depth pre)) ∙ ap (extended F.size (take depth pre)) (let z : 0 ≡ k - depth = omega arith in z)) f

-- The curve divided by a power of x, and a coefficient more.
module _ (F : Meaning) (L : Laws F) (t : ℕ) (ps : List Pair) (r : Region) (p : List ℕ) (n : ℕ) (low : List ℕ) where
  pub covers_lowered : (s : Region) (c : List ℕ) → Lowered r s c low → Light F r c → Covers F t ps r p n c → Covers F t ps s p n low
  unfolding Covers
  covers_lowered s c lw light h g m e = lowered_lies F r s c low lw light L g (h g m e)

  longer : (a : ℕ) (g : List ℕ) → passes F t (points ps) (values ps) ((p ++ a ∷ []) ++ g) ≡ true → passes F t (points ps) (values ps) (p ++ a ∷ g) ≡ true
  longer a g e = ap (λ f. passes F t (points ps) (values ps) f) (sym (append_assoc p (a ∷ []) g)) ∙ e

  -- what goes on past a root lies on the curve after it
  pub covers_next : (w a : ℕ) (next : List ℕ) → r.weight ≡ w + 1 → a < F.size → Light F r low → Moved F r a low next → Covers F t ps r p (suc n) low → Covers F t ps (lighter r) (p ++ a ∷ []) n next
  unfolding Covers Light
  covers_next w a next heavy h light mv cov g m e =
      code_lies_same F L r.width r.height (moved (codes F) a (table F columns low) r.height 0) (table F columns next) mv.same g
      (code_moved_lies F L r.width r.height w a (table F columns low) (subst (λ v. DegreeBelow (codes F) r.width r.height v r.width (table F columns low)) heavy light) g
      (cov (a ∷ g) (row_cons n F.size a g h m) (longer a g e)))

  -- past what is no root nothing goes on
  pub none_past : 0 < r.width → (a : ℕ) → a < F.size → (bottom (codes F) r.height (table F columns low) a ≡ 0 → ⊥) → Covers F t ps r p (suc n) low
      → chosen F t ps (extended F.size (p ++ a ∷ []) n) ≡ []
  unfolding Covers
  none_past pos a h off cov =
      chosen_none F t ps (p ++ a ∷ []) n
      (λ g m e. off (code_root F L r.width r.height pos (table F columns low) a g (cov (a ∷ g) (row_cons n F.size a g h m) (longer a g e))))

light_next : (F : Meaning) → Laws F → (r : Region) (w a : ℕ) (low next : List ℕ) → r.weight ≡ w + 1 → Light F r low → Moved F r a low next → Light F (lighter r) next
unfolding Light
light_next F L r w a low next heavy light mv i j hi hj o =
    mv.same i j hi hj
    ∙ code_moved_degree F L r.width r.height w a (table F columns low) (subst (λ v. DegreeBelow (codes F) r.width r.height v r.width (table F columns low)) heavy light) i j hi hj
    (subst (λ v. r.width ≤ i + v * j) (let q : r.weight - 1 ≡ w = omega arith in q) o)

module _ (F : Meaning) (L : Laws F) (k t : ℕ) (ps : List Pair) (r s : Region) (depth : ℕ) (p c low : List ℕ) (d : Descent F k t ps r depth p c) (lt : depth < k) (lw : Lowered r s c low) where
  low_covers : Covers F t ps s p (suc (k - depth - 1)) low
  low_covers = subst (λ n. Covers F t ps s p n low) (let e : k - depth ≡ suc (k - depth - 1) = omega arith in e)
      (covers_lowered F L t ps r p (k - depth) low s c lw (d.light lt) (d.covers lt))

  pub low_light : Light F s low
  low_light = lowered_light F r s c low lw (d.light lt)

  pub low_weight : depth + 1 < k → 1 ≤ s.weight
  low_weight h = let e = d.weight lt in let q = lw.narrower.weight in omega arith

  pub step_descent : (root : ℕ) (next p' : List ℕ) → root < F.size → (depth + 1 < k → Moved F s root low next) → p' ≡ p ++ root ∷ [] → Descent F k t ps (lighter s) (depth + 1) p' next
  step_descent root next p' h mv e = record {
    deep = omega arith;
    column = lw.narrower.some;
    weight = λ l. let a = d.weight lt in let q = lw.narrower.weight in let z : s.weight - 1 ≡ k - 1 - (depth + 1) = omega arith in z;
    covers = λ l. subst₂ (λ p n. Covers F t ps (lighter s) p n next) (sym e) (let q : k - depth - 1 ≡ k - (depth + 1) = omega arith in q)
        (covers_next F L t ps s p (k - depth - 1) low (k - 1 - (depth + 1)) root next (heavy l) h low_light (mv l) low_covers);
    light = λ l. light_next F L s (k - 1 - (depth + 1)) root low next (heavy l) low_light (mv l);
  }
    where
      heavy : depth + 1 < k → s.weight ≡ k - 1 - (depth + 1) + 1
      heavy l = let a = d.weight lt in let q = lw.narrower.weight in omega arith

  -- The coefficients at x = 0 stand in the list.
  pub step_none : (foot : List ℕ) (used : ℕ) → FootOf s.height used foot low → (root : ℕ) → root < F.size → false ≡ eqb (value F (take used foot) root) 0
      → chosen F t ps (extended F.size (p ++ root ∷ []) (k - depth - 1)) ≡ []
  step_none foot used f root h off =
      none_past F L t ps s p (k - depth - 1) low lw.narrower.some root h
      (λ z. false-eqb _ _ off
      (bottom_value F L root (take used foot) foot low s.height used (length-take-le used foot (let a = f.size in let b = f.short in let e = s.high in omega arith)) (λ j l. get_or-take used foot j 0 l) f ∙ z))
      low_covers

-- lists that begin alike begin alike with one letter fewer
pub sooner : (n : ℕ) (a b : List ℕ) → take (n + 1) a ≡ take (n + 1) b → take n a ≡ take n b
sooner n a b e = sym (take-take n (n + 1) a (omega arith)) ∙ ap (take n) e ∙ take-take n (n + 1) b (omega arith)

-- One root more, and one code more that is no root, after those that are found up to it.
module _ (F : Meaning) (k t : ℕ) (ps : List Pair) (depth : ℕ) (p : List ℕ) (root : ℕ) (b₀ b₁ : List ℕ) (n₀ n₁ : ℕ)
    (before : Adds k (chosen F t ps (upto F.size p (k - depth - 1) root)) b₀ n₀ b₁ (Some n₁)) where
  pub held_root : (p' b₂ : List ℕ) (a : Option ℕ) → p' ≡ p ++ root ∷ [] → Adds k (chosen F t ps (extended F.size p' (k - (depth + 1)))) b₁ n₁ b₂ a
      → Adds k (chosen F t ps (upto F.size p (k - depth - 1) (root + 1))) b₀ n₀ b₂ a
  held_root p' b₂ a e found =
      adds_more k _ _ _ b₀ b₁ b₂ n₀ n₁ a
      (chosen_more F t ps p (k - depth - 1) root
      ∙ ap₂ (λ z n. chosen F t ps (upto F.size p (k - depth - 1) root) ++ chosen F t ps (extended F.size z n)) (sym e) (let q : k - depth - 1 ≡ k - (depth + 1) = omega arith in q))
      before found

  -- past what does not fit nothing is looked at
  pub held_over : (p' b₂ : List ℕ) → p' ≡ p ++ root ∷ [] → root < F.size → depth < k → Adds k (chosen F t ps (extended F.size p' (k - (depth + 1)))) b₁ n₁ b₂ None
      → Adds k (chosen F t ps (extended F.size p (k - depth))) b₀ n₀ b₂ None
  held_over p' b₂ e h lt found =
      adds_over k _ _ b₀ b₂ n₀
      (subst (λ z. length (chosen F t ps (upto F.size p (k - depth - 1) (root + 1))) ≤ length (chosen F t ps z)) (upto_all F.size p (k - depth - 1) (k - depth) (omega arith))
      (chosen_fewer F t ps p (k - depth - 1) (root + 1) F.size (omega arith)))
      (held_root p' b₂ None e found)

  pub held_not : chosen F t ps (extended F.size (p ++ root ∷ []) (k - depth - 1)) ≡ [] → Adds k (chosen F t ps (upto F.size p (k - depth - 1) (root + 1))) b₀ n₀ b₁ (Some n₁)
  held_not none =
      adds_more k _ _ _ b₀ b₁ b₁ n₀ n₁ (Some n₁) (chosen_more F t ps p (k - depth - 1) root) before (adds_none k _ b₁ n₁ none)
