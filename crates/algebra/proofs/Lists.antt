-- Lists: what holds of every element, and lists from functions.
use Rattle.std.proofs.Common.{◌≡◌, ℕ, zero, suc, ◌<◌, List, [], ◌∷◌, map, length, refl, ap, arith}
use Rattle.algebra.specs.Lists.{Each, Distinct}

pub each_map : {A : Type 0} {P Q : A → Type 0} → ((x : A) → P x → Q x) → (l : List A) → Each P l → Each Q l
each_map f [] t = tt
each_map f (x ∷ l) t = (f x t.0, each_map f l t.1)

pub each_over : {A B : Type 0} (P : B → Type 0) (g : A → B) (l : List A) → Each (λ x. P (g x)) l → Each P (map g l)
each_over P g [] t = tt
each_over P g (x ∷ l) t = (t.0, each_over P g l t.1)

pub each_both : {A : Type 0} (P Q : A → Type 0) (l : List A) → Each P l → Each Q l → Each (λ x. P x × Q x) l
each_both P Q [] a b = tt
each_both P Q (x ∷ l) a b = ((a.0, b.0), each_both P Q l a.1 b.1)

-- A map keeps elements apart that it tells apart.
pub distinct_map : {A B : Type 0} (C : A → Type 0) (f : A → B) (l : List A) → ((x y : A) → C x → C y → f x ≡ f y → x ≡ y) → Each C l → Distinct l → Distinct (map f l)
distinct_map C f [] h c d = tt
distinct_map C f (x ∷ l) h c d = (
  each_over (λ y. ¬ (f x ≡ y)) f l (each_map (λ y p e. p.0 (h x y c.0 p.1 e)) l (each_both (λ y. ¬ (x ≡ y)) C l d.0 c.1)),
  distinct_map C f l h c.1 d.1,
)

pub length_map : {A B : Type 0} (g : A → B) (l : List A) → length (map g l) ≡ length l
length_map g [] = refl
length_map g (x ∷ l) = ap suc (length_map g l)

pub map_map : {A B C : Type 0} (f : B → C) (g : A → B) (l : List A) → map f (map g l) ≡ map (λ x. f (g x)) l
map_map f g [] = refl
map_map f g (x ∷ l) = λ i. f (g x) ∷ map_map f g l i

-- The list f 0, .., f (n - 1).
abbrev pub tab : {A : Type 0} → ℕ → (ℕ → A) → List A
tab zero f = []
tab (suc n) f = f 0 ∷ tab n (λ i. f (suc i))

pub length_tab : {A : Type 0} (n : ℕ) (f : ℕ → A) → length (tab n f) ≡ n
length_tab zero f = refl
length_tab (suc n) f = ap suc (length_tab n (λ i. f (suc i)))

pub each_at : {A : Type 0} (P : A → Type 0) (n : ℕ) (f : ℕ → A) → Each P (tab n f) → (i : ℕ) → i < n → P (f i)
each_at P zero f e i h = absurd (omega arith)
each_at P (suc n) f e zero h = e.0
each_at P (suc n) f e (suc i) h = each_at P n (λ i. f (suc i)) e.1 i (omega arith)
