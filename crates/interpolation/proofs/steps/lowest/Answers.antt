use Rattle.std.proofs.Common.{◌≡◌, ℕ, ◌<◌, Some, None, Option, length, subst, refl, arith, rules, tests}
use Rattle.std.proofs.lemmas.Iterator.{YieldsList-from_range, IsFirst-from_position}
use Rattle.std.proofs.lemmas.List.FromFn.{length-range_with_len, get_or-range_with_len}
use Rattle.std.specs.List.{range_with_len, AllWithin, HoldsAt}
use Rattle.std.specs.Option.{MatchOption, unwrap_or}
use Rattle.interpolation.specs.Region.{cell}
use Rattle.interpolation.proofs.steps.lowest.Goals as goal

-- the powers before the first that is found, or all
before_first : (Yes No : ℕ → Type 0) (n : ℕ) (found : Option ℕ)
    → MatchOption found (AllWithin No (range_with_len 0 n) 0 (length (range_with_len 0 n))) (λ i. (i < length (range_with_len 0 n)) × HoldsAt Yes (range_with_len 0 n) i × AllWithin No (range_with_len 0 n) 0 i)
    → (i : ℕ) → i < unwrap_or found n → No i
before_first Yes No n None h i l =
    let e = length-range_with_len 0 n in
    let q = get_or-range_with_len 0 n i 0 l in
    subst No (omega arith) (h i 0 (omega arith) (omega arith))
before_first Yes No n (Some k) h i l =
    let e = length-range_with_len 0 n in
    let below = h.0 in
    let q = get_or-range_with_len 0 n i 0 (omega arith) in
    subst No (omega arith) (h.2 i 0 (omega arith) l)

pub returns-clause-clear : goal.returns-clause-clear
returns-clause-clear c i h =
    let No : ℕ → Type 0 = λ i. (j : ℕ) → j < c.args.region.height → cell c.args.curve.now.cells i j ≡ 0 in
    let found = IsFirst-from_position _ _ c.position.result (λ _. Unit {0}) No c.position.ensures.ran (YieldsList-from_range 0 c.args.region.width c.args.region.width refl (omega arith))
    (λ x q k. tt) (λ x q k. search (rules, tests)) in
    before_first (λ _. Unit {0}) No c.args.region.width c.position.result found i (subst (λ n. i < n) c.unwrap_or.ensures h)
