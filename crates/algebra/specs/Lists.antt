-- What holds of every element of a list, and lists in which nothing stands twice.
use Rattle.std.specs.Prelude.{◌≡◌, List, [], ◌∷◌}

-- Every element has the property.
abbrev pub Each : {A : Type 0} → (A → Type 0) → List A → Type 0
Each P [] = Unit {0}
Each P (x ∷ xs) = P x × Each P xs

-- No element stands twice.
abbrev pub Distinct : {A : Type 0} → List A → Type 0
Distinct [] = Unit {0}
Distinct (x ∷ xs) = Each (λ y. ¬ (x ≡ y)) xs × Distinct xs
