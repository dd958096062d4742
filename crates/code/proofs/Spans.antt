-- Lists by their elements, over the numbers from a on.
use Rattle.std.proofs.Common.{◌≡◌, ℕ, zero, suc, ◌+◌, ◌<◌, List, [], ◌∷◌, map, length, get_or, refl, ap, ◌∙◌, ap₂, arith}
use Rattle.code.specs.Messages.{span}

pub span_length : (a i : ℕ) → length (span a i) ≡ i
unfolding span
span_length a zero = refl
span_length a (suc i) = ap suc (span_length (suc a) i)

from : (f : ℕ → ℕ) (w : List ℕ) (a n : ℕ) → length w ≡ n → ((k : ℕ) → k < n → get_or w k 0 ≡ f (a + k)) → w ≡ map f (span a n)
unfolding span
from f [] a zero e h = refl
from f [] a (suc n) e h = absurd (omega arith)
from f (x ∷ w) a zero e h = absurd (omega arith)
from f (x ∷ w) a (suc n) e h =
    ap₂ ◌∷◌ (h 0 (omega arith) ∙ ap f (let z : a + 0 ≡ a = omega arith in z))
    (from f w (suc a) n (omega arith) (λ k l. h (suc k) (omega arith) ∙ ap f (let z : a + suc k ≡ suc a + k = omega arith in z)))

-- a list of n values of f
pub all_values : (f : ℕ → ℕ) (w : List ℕ) (n : ℕ) → length w ≡ n → ((k : ℕ) → k < n → get_or w k 0 ≡ f k) → w ≡ map f (span 0 n)
all_values f w n e h = from f w 0 n e (λ k l. h k l ∙ ap f (let z : k ≡ 0 + k = omega arith in z))
