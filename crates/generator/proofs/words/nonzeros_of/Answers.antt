use Rattle.std.proofs.Common.{rules, tests, ◌∙◌, not, eqb}
use Rattle.std.proofs.lemmas.Iterator.{YieldsList-from_slice}
use Rattle.std.proofs.lemmas.Iterator.Consumers.{YieldsList-from_filter, count_from_yields_List}
use Rattle.generator.proofs.Counts.{nonzeros_filtered}
use Rattle.generator.proofs.words.nonzeros_of.Goals as goal

pub returns : goal.returns
returns c =
    count_from_yields_List c.filter.result _ c.count.ensures.ran
    (YieldsList-from_filter _ (λ l. not (eqb l 0)) (YieldsList-from_slice c.args.word.now cc) c.filter.ensures.closure (λ x b q k. search (rules, tests)))
    ∙ nonzeros_filtered c.args.word.now
