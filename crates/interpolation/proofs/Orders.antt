-- The polynomials that begin with given coefficients, in their order.
use Rattle.std.proofs.Common.{◌≡◌, ℕ, zero, suc, ◌+◌, ◌-◌, ◌≤◌, Bool, true, false, cond, List, [], ◌∷◌, ◌++◌, map, length, filter, sym, refl, ap, ◌∙◌, subst, add-one, arith}
use Rattle.std.proofs.lemmas.List.Elements.{filter-append}
use Rattle.std.proofs.lemmas.List.{append_assoc, append-nil, length-append, map-append, map-id}
use Rattle.std.proofs.lemmas.Bool.{and_parts}
use Rattle.algebra.specs.Field.{Meaning}
use Rattle.code.specs.Messages.{every, is_row, span, each, messages}
use Rattle.code.proofs.Rows.{messages_rows}
use Rattle.interpolation.specs.declared.pairs.Pair.{Pair}
use Rattle.interpolation.specs.Pairs.{points, values}
use Rattle.interpolation.specs.Recovered.{passes}
use Rattle.interpolation.specs.Walk.{chosen, extended}

-- those whose next coefficient is below r
abbrev pub upto : ℕ → List ℕ → ℕ → ℕ → List (List ℕ)
upto q p n r = map (λ g. p ++ g) (each (λ a. map (λ m. a ∷ m) (messages q n)) (span 0 r))

span_more : (a i : ℕ) → span a (suc i) ≡ span a i ++ (a + i) ∷ []
unfolding span
span_more a zero = ap (λ x. x ∷ []) (let e : a ≡ a + 0 = omega arith in e)
span_more a (suc i) = ap (λ x. a ∷ x) (span_more (suc a) i ∙ ap (λ x. span (suc a) i ++ x ∷ []) (let e : suc a + i ≡ a + suc i = omega arith in e))

each_append : {X Y : Type 0} (f : X → List Y) (xs ys : List X) → each f (xs ++ ys) ≡ each f xs ++ each f ys
each_append f [] ys = refl
each_append f (x ∷ xs) ys = ap (λ z. f x ++ z) (each_append f xs ys) ∙ sym (append_assoc (f x) (each f xs) (each f ys))

map_under : (p : List ℕ) (a : ℕ) (ms : List (List ℕ)) → map (λ g. p ++ g) (map (λ m. a ∷ m) ms) ≡ map (λ g. (p ++ a ∷ []) ++ g) ms
map_under p a [] = refl
map_under p a (m ∷ ms) = λ i. sym (append_assoc p (a ∷ []) m) i ∷ map_under p a ms i

upto_more : (q : ℕ) (p : List ℕ) (n r : ℕ) → upto q p n (r + 1) ≡ upto q p n r ++ extended q (p ++ r ∷ []) n
upto_more q p n r =
    let f = λ (a : ℕ). map (λ m. a ∷ m) (messages q n) in
    ap (λ k. upto q p n k) (add-one r)
    ∙ ap (λ s. map (λ g. p ++ g) (each f s)) (span_more 0 r ∙ ap (λ x. span 0 r ++ x ∷ []) (let e : 0 + r ≡ r = omega arith in e))
    ∙ ap (map (λ g. p ++ g)) (each_append f (span 0 r) (r ∷ []) ∙ ap (λ x. each f (span 0 r) ++ x) (append-nil (f r)))
    ∙ map-append (λ g. p ++ g) (each f (span 0 r)) (f r)
    ∙ ap (λ x. upto q p n r ++ x) (map_under p r (messages q n))

pub upto_none : (q : ℕ) (p : List ℕ) (n : ℕ) → upto q p n 0 ≡ []
unfolding span
upto_none q p n = refl

pub upto_all : (q : ℕ) (p : List ℕ) (n k : ℕ) → k ≡ suc n → upto q p n q ≡ extended q p k
unfolding messages
upto_all q p n k e = ap (extended q p) (sym e)

pub extended_none : (q : ℕ) (p : List ℕ) → extended q p 0 ≡ p ∷ []
unfolding messages
extended_none q p = ap (λ x. x ∷ []) (append-nil p)

pub extended_all : (q k : ℕ) → extended q [] k ≡ messages q k
extended_all q k = map-id (messages q k)

-- Where nothing passes, nothing is kept.
kept_out : (f : List ℕ → Bool) (h : List ℕ → List ℕ) (n q : ℕ) (ms : List (List ℕ)) → every (is_row n q) ms ≡ true → ((g : List ℕ) → is_row n q g ≡ true → f (h g) ≡ true → ⊥)
    → filter f (map h ms) ≡ []
kept_out f h n q [] e off = refl
kept_out f h n q (m ∷ ms) e off =
    let parts = and_parts (is_row n q m) (every (is_row n q) ms) e in
    by (kept_out f h n q ms parts.1 off) parts.0 (f (h m)) refl
  where
    by : filter f (map h ms) ≡ [] → is_row n q m ≡ true → (b : Bool) → f (h m) ≡ b → cond (f (h m)) (h m ∷ filter f (map h ms)) (filter f (map h ms)) ≡ []
    by rest row true t = absurd (off m row t)
    by rest row false t = ap (λ b. cond b (h m ∷ filter f (map h ms)) (filter f (map h ms))) t ∙ rest

module _ (F : Meaning) (t : ℕ) (ps : List Pair) where
  pub chosen_more : (p : List ℕ) (n r : ℕ) → chosen F t ps (upto F.size p n (r + 1)) ≡ chosen F t ps (upto F.size p n r) ++ chosen F t ps (extended F.size (p ++ r ∷ []) n)
  chosen_more p n r = ap (chosen F t ps) (upto_more F.size p n r) ∙ filter-append (λ f. passes F t (points ps) (values ps) f) (upto F.size p n r) (extended F.size (p ++ r ∷ []) n)

  pub chosen_none : (p : List ℕ) (n : ℕ) → ((g : List ℕ) → is_row n F.size g ≡ true → passes F t (points ps) (values ps) (p ++ g) ≡ true → ⊥) → chosen F t ps (extended F.size p n) ≡ []
  chosen_none p n off = kept_out (λ f. passes F t (points ps) (values ps) f) (λ g. p ++ g) n F.size (messages F.size n) (messages_rows F.size n) off

  -- more coefficients give no fewer
  pub chosen_fewer : (p : List ℕ) (n a b : ℕ) → a ≤ b → length (chosen F t ps (upto F.size p n a)) ≤ length (chosen F t ps (upto F.size p n b))
  chosen_fewer p n a b h = by (b - a) b (let q : a + (b - a) ≡ b = omega arith in q)
    where
      by : (d b : ℕ) → a + d ≡ b → length (chosen F t ps (upto F.size p n a)) ≤ length (chosen F t ps (upto F.size p n b))
      by zero b e = let q : a ≡ b = omega arith in subst (λ z. length (chosen F t ps (upto F.size p n a)) ≤ length (chosen F t ps (upto F.size p n z))) q (omega arith)
      by (suc d) b e =
          let q : a + d + 1 ≡ b = omega arith in
          let before = by d (a + d) refl in
          let more = ap length (chosen_more p n (a + d)) ∙ length-append (chosen F t ps (upto F.size p n (a + d))) (chosen F t ps (extended F.size (p ++ (a + d) ∷ []) n)) in
          subst (λ z. length (chosen F t ps (upto F.size p n a)) ≤ length (chosen F t ps (upto F.size p n z))) q (omega arith)
