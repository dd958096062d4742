use Rattle.std.proofs.Common.{rules, tests, nat_lt}
use Rattle.std.proofs.lemmas.Iterator.{YieldsList-from_slice}
use Rattle.std.proofs.lemmas.Iterator.Search.{all_from_yields_List}
use Rattle.code.proofs.messages.is_row.Goals as goal

pub returns-then-letters-k : goal.returns-then-letters-k
returns-then-letters-k c =
    let all = all_from_yields_List (λ l. nat_lt l c.args.p) _ _ c.all.result c.all.ensures.ran (YieldsList-from_slice c.args.letters.now cc) (λ x b q k. search (rules, tests)) in
    search (rules, all)
