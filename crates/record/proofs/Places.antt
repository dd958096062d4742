-- The standing letters of a record after the marks of one place change.
use Rattle.std.proofs.Common.{◌≡◌, ℕ, zero, suc, ◌<◌, ◌≤◌, Bool, true, false, cond, eqb, ltb, List, ◌∷◌, map, length, get_or, take, set, replicate, sym, refl, ap, ◌∙◌, arith}
use Rattle.std.proofs.Math.Seq.{take-set-lt}
use Rattle.std.proofs.lemmas.List.{map-set, set-get_or, get_or-map, get_or-take, length-take-le, take-replicate}
use Rattle.std.proofs.lemmas.Bool.{cond-true, lt-ltb}
use Rattle.sheet.specs.Letters.{Sheet, none, join, size}
use Rattle.sheet.specs.Standing.{stands, sheet_of}
use Rattle.sheet.specs.declared.marks.Marks.{Marks}
use Rattle.code.specs.Meaning.{Meaning}
use Rattle.record.specs.Book.{at, fresh, heard, struck}

map_replicate : {X Y : Type 0} (f : X → Y) (n : ℕ) (x : X) → map f (replicate n x) ≡ replicate n (f x)
map_replicate f zero x = refl
map_replicate f (suc n) x = ap (λ t. f x ∷ t) (map_replicate f n x)

-- the letters at the places of the code
abbrev pub standing : Meaning → List Marks → Sheet
standing m marks = sheet_of (take m.n marks)

pub standing_new : (m : Meaning) (blank : Marks) (k : ℕ) → m.n ≤ k → stands blank ≡ none → standing m (replicate k blank) ≡ fresh m
standing_new m blank k h e = ap (map stands) (take-replicate m.n k blank h) ∙ map_replicate stands m.n blank ∙ ap (replicate m.n) e

module _ (m : Meaning) (marks : List Marks) (p : ℕ) (d : Marks) (lp : p < m.n) (long : m.n ≤ length marks) where
  standing_set : (x : Marks) → standing m (set marks p x) ≡ set (standing m marks) p (stands x)
  standing_set x = ap (map stands) (take-set-lt m.n marks p x lp) ∙ map-set stands (take m.n marks) p x

  standing_at : at (standing m marks) p ≡ stands (get_or marks p d)
  standing_at = get_or-map stands (take m.n marks) p d none (let e = length-take-le m.n marks long in omega arith) ∙ ap stands (get_or-take m.n marks p d lp)

  here : {X : Type 0} (x y : X) → cond (ltb p m.n) x y ≡ x
  here x y = cond-true (ltb p m.n) x y (lt-ltb p m.n lp)

  module _ (l : ℕ) (ll : l < m.q) where
    letter : {X : Type 0} (x y z : X) → cond (ltb p m.n) (cond (ltb l m.q) x y) z ≡ x
    letter x y z = here _ z ∙ cond-true (ltb l m.q) x y (lt-ltb l m.q ll)

    pub hear_after : (x : Marks) → stands x ≡ join l (stands (get_or marks p d)) → standing m (set marks p x) ≡ heard m (standing m marks) p l
    hear_after x e = standing_set x ∙ ap (set (standing m marks) p) (e ∙ ap (join l) (sym standing_at)) ∙ sym (letter _ _ _)

  set_if : (b : Bool) → set (standing m marks) p (cond b (at (standing m marks) p) none) ≡ cond b (standing m marks) (set (standing m marks) p none)
  set_if true = set-get_or (standing m marks) p none
  set_if false = refl

  pub strike_after : (x : Marks) → stands x ≡ cond (eqb (size (stands (get_or marks p d))) 0) (stands (get_or marks p d)) none → standing m (set marks p x) ≡ struck m (standing m marks) p
  strike_after x e =
      standing_set x ∙ ap (set (standing m marks) p) (e ∙ ap (λ z. cond (eqb (size z) 0) z none) (sym standing_at))
      ∙ set_if (eqb (size (at (standing m marks) p)) 0) ∙ sym (here _ _)
