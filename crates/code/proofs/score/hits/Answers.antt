use Rattle.std.proofs.Common.{length, take, arith, length-take-le}
use Rattle.std.proofs.lemmas.Slice.Zip.{zip_end}
use Rattle.code.proofs.Scores.{hits_past}
use Rattle.code.proofs.score.hits.Goals as goal

pub returns : goal.returns
returns c =
    let n = c.min-n.result in
    let sheet = length-take-le n c.args.sheet.now (omega (arith, c.min-n.ensures)) in
    let word = length-take-le n c.args.word.now (omega (arith, c.min-n.ensures)) in
    let turns = zip_end (take n c.args.sheet.now) (take n c.args.word.now) c.loop-marks.yielded _ _ c.next.new.self _ (cc) (cc) c.loop-marks.yielded_by c.in-None.is c.next.ensures.steps in
    let past = hits_past c.args.sheet.now c.args.word.now (length c.loop-marks.yielded) (omega (arith, turns, sheet, word, c.min-n.ensures)) in
    omega (arith, c.loop-marks.invariant.0, past)
