use Rattle.std.proofs.Common.{◌≡◌, ◌==◌, ℕ, zero, suc, ◌+◌, ◌<◌, Bool, true, sym, refl, ap, ◌∙◌, eqb-true, arith, rules, tests}
use Rattle.std.proofs.lemmas.Bool.{and_parts}
use Rattle.std.proofs.lemmas.Iterator.{YieldsList-from_range}
use Rattle.std.proofs.lemmas.Iterator.Search.{all_from_yields_List}
use Rattle.std.specs.List.{list_all, range_with_len}
use Rattle.interpolation.specs.Region.{cell}
use Rattle.interpolation.proofs.steps.is_clear.Goals as goal

-- what holds for all numbers from a on
each_of : (p : ℕ → Bool) (a n : ℕ) → list_all p (range_with_len a n) ≡ true → (j : ℕ) → j < n → p (a + j) ≡ true
each_of p a zero e j h = absurd (omega arith)
each_of p a (suc n) e zero h = ap p (let q : a + 0 ≡ a = omega arith in q) ∙ (and_parts (p a) _ e).0
each_of p a (suc n) e (suc j) h = ap p (let q : a + suc j ≡ a + 1 + j = omega arith in q) ∙ each_of p (a + 1) n (and_parts (p a) _ e).1 j (omega arith)

pub returns : goal.returns
returns c e j h =
    let p : ℕ → Bool = λ j. (cell c.args.curve.now.cells c.args.i j == 0) in
    let found = all_from_yields_List p _ _ c.all.result c.all.ensures.ran (YieldsList-from_range 0 c.args.height c.args.height refl (omega arith)) (λ x b q k. search (rules, tests)) in
    eqb-true _ _ (ap p (let q : j ≡ 0 + j = omega arith in q) ∙ each_of p 0 c.args.height (sym found ∙ e) j h)
