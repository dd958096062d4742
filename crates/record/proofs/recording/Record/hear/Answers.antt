use Rattle.std.proofs.Common.{◌≡◌, ◌<◌, ◌≤◌, length, arith, rules}
use Rattle.record.proofs.Passing.{letter_passes}
use Rattle.record.proofs.Places.{hear_after}
use Rattle.record.proofs.recording.Record.hear.Goals as goal

pub returns-clause-after : goal.returns-clause-after
returns-clause-after g c =
    let m = g.C.Code.means c.args.self.now.code in
    let marks = c.args.self.now.sheet in
    let high = (g.met.C.Code.lawful c.args.self.now.code).sizes.n_high in
    let t = letter_passes c.args.place c.places.result c.args.letter c.letters.result _ c.in_ok-check_letter.ensures in
    let lp : c.args.place < m.n = omega (arith, t.0, c.places.ensures) in
    let ll : c.args.letter < m.q = omega (arith, t.1, c.letters.ensures) in
    let long : m.n ≤ length marks = let e : length marks ≡ 240 = search rules in omega arith in
    hear_after m marks c.args.place _ lp long c.args.letter ll c.join_letter.new.marks c.join_letter.ensures.after
