use Rattle.std.proofs.Common.{rules}
use Rattle.std.proofs.lemmas.Option.{MatchOption-at_none}
use Rattle.std.proofs.iter.runs.Sources.{ranges, range_runs}
use Rattle.interpolation.proofs.koetter.Table.first_live.Goals as goal

pub returns-clause-dead : goal.returns-clause-dead
returns-clause-dead c = λ e j h.
    let u = c.find.ensures.runs.0 in
    let all = MatchOption-at_none _ _ e c.find.ensures.runs.2 in
    let up = range_runs u u.seen in
    let item = up.3 j (search (rules, up.1 all.0)) in
    search (rules, ranges, all)
