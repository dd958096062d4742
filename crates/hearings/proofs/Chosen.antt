-- Books of a chosen code.
use Rattle.std.proofs.Common.{◌≡◌, ap, ◌∙◌}
use Rattle.sheet.specs.Letters.{Sheet}
use Rattle.code.specs.Meaning.{Meaning}
use Rattle.hearings.specs.Text.{chosen}

-- books of equal codes and letters are equal
pub chosen_as : {m n : Meaning} {s t : Sheet} → m ≡ n → s ≡ t → chosen m s ≡ chosen n t
chosen_as {n = n} {s = s} e f = ap (λ c. chosen c s) e ∙ ap (chosen n) f
