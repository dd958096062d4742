use Rattle.std.proofs.Common.{rules, tests, sym, ◌∙◌}
use Rattle.std.proofs.lemmas.Iterator.{YieldsList-from_slice}
use Rattle.std.proofs.lemmas.Iterator.Search.{all_from_yields_List}
use Rattle.std.proofs.lemmas.List.Folds.{list_all-map}
use Rattle.sheet.specs.Standing.{stands}
use Rattle.code.specs.Meaning.{below}
use Rattle.code.proofs.sheets.is_sheet.Goals as goal

pub returns-then-sheet-n : goal.returns-then-sheet-n
returns-then-sheet-n c =
    let all = all_from_yields_List (λ m. below c.args.q 256 (stands m)) _ _ c.all.result c.all.ensures.ran (YieldsList-from_slice c.args.sheet.now cc) (λ x b q k. search (rules, tests))
    ∙ sym (list_all-map (below c.args.q 256) stands c.args.sheet.now) in
    search (rules, all)
