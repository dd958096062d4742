-- Lines that are written letter by letter, and lists that are written message by message.
use Rattle.std.proofs.Common.{◌≡◌, ℕ, ◌+◌, ◌<◌, ◌≤◌, List, [], ◌++◌, length, get_or, drop, sym, ap, ◌∙◌, add-one}
use Rattle.std.proofs.Math.Seq.{drop-cons}
use Rattle.std.proofs.lemmas.List.{drop_all}
use Rattle.hearings.specs.Lines.{field, gap, letters_from}

-- the line goes on with letter i, and then with those after it
pub letters_next : (i : ℕ) (ls : List ℕ) → i < length ls → letters_from i (drop i ls) ≡ field (gap i) (get_or ls i 0) ++ letters_from (i + 1) (drop (i + 1) ls)
letters_next i ls h = ap (letters_from i) (drop-cons ls i 0 h) ∙ ap (λ n. field (gap i) (get_or ls i 0) ++ letters_from n (drop n ls)) (sym (add-one i))

pub letters_none : (i : ℕ) (ls : List ℕ) → length ls ≤ i → letters_from i (drop i ls) ≡ []
letters_none i ls h = ap (letters_from i) (drop_all i ls h)
