-- A file is read record by record.
use Rattle.std.proofs.Common.{◌≡◌, ℕ, zero, suc, ◌-◌, ◌<◌, ◌≤◌, Bool, true, false, cond, leb, List, [], ◌∷◌, length, sym, refl, ap, ◌∙◌, subst, arith, length-drop}
use Rattle.hearings.specs.File.{Entry, known, body, Front, nothing, first, front, then_more, entries_from, entries}

-- what is left is shorter
abbrev Shorter : ℕ → Front → Type 0
Shorter n nothing = Unit {0}
Shorter n (first e rest) = length rest < n

cond_all : (P : Front → Type 0) (b : Bool) (x y : Front) → P x → P y → P (cond b x y)
cond_all P true x y p q = p
cond_all P false x y p q = q

shorter : (left : List ℕ) → Shorter (length left) (front left)
shorter [] = tt
shorter (kind ∷ rest) =
    cond_all (Shorter (suc (length rest))) (known kind) _ _
    (cond_all (Shorter (suc (length rest))) (leb (body kind) (length rest)) _ _ (simp length-drop (omega arith)) (omega arith))
    (omega arith)

same_more : (at n : ℕ) (f g : List ℕ → List (ℕ × Entry)) (r : Front) → ((xs : List ℕ) → length xs < n → f xs ≡ g xs) → Shorter n r → then_more at f r ≡ then_more at g r
same_more at n f g nothing h s = refl
same_more at n f g (first e rest) h s = ap (λ es. (at, e) ∷ es) (h rest s)

-- more turns than bytes change nothing
turns : (total d e : ℕ) (left : List ℕ) → length left ≤ d → length left ≤ e → entries_from total d left ≡ entries_from total e left
unfolding entries_from
turns total zero zero left p q = refl
turns total zero (suc e) [] p q = refl
turns total zero (suc e) (x ∷ left) p q = absurd (omega arith)
turns total (suc d) zero [] p q = refl
turns total (suc d) zero (x ∷ left) p q = absurd (omega arith)
turns total (suc d) (suc e) left p q =
    same_more (total - length left) (length left) (entries_from total d) (entries_from total e) (front left) (λ xs h. turns total d e xs (omega arith) (omega arith)) (shorter left)

-- the records that are left of a file of `total` bytes
unfoldable pub left_in_file : ℕ → List ℕ → List (ℕ × Entry)
unfolding entries_from
left_in_file total left = entries_from total (length left) left

pub all_left : (file : List ℕ) → entries file ≡ left_in_file (length file) file
unfolding entries left_in_file
all_left file = refl

step : (total : ℕ) (left : List ℕ) → left_in_file total left ≡ then_more (total - length left) (left_in_file total) (front left)
unfolding entries_from left_in_file
step total [] = refl
step total (x ∷ left) =
    same_more (total - length (x ∷ left)) (length (x ∷ left)) (entries_from total (length left)) (left_in_file total) (front (x ∷ left))
    (λ xs h. turns total (length left) (length xs) xs (omega arith) (omega arith)) (shorter (x ∷ left))

-- the reading goes on with what follows a record, and ends where nothing is left
pub next_entry : (total : ℕ) (left rest : List ℕ) (e : Entry) → first e rest ≡ front left
    → (left_in_file total left ≡ (total - length left, e) ∷ left_in_file total rest) × (length rest < length left)
next_entry total left rest e h =
    (step total left ∙ ap (then_more (total - length left) (left_in_file total)) (sym h), subst (Shorter (length left)) (sym h) (shorter left))

pub no_entry : (total : ℕ) (left : List ℕ) → nothing ≡ front left → left_in_file total left ≡ []
no_entry total left h = step total left ∙ ap (then_more (total - length left) (left_in_file total)) (sym h)
