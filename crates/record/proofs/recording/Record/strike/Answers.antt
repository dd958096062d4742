use Rattle.std.proofs.Common.{◌≡◌, ◌<◌, ◌≤◌, length, arith, rules}
use Rattle.record.proofs.Passing.{place_passes}
use Rattle.record.proofs.Places.{strike_after}
use Rattle.record.proofs.recording.Record.strike.Goals as goal

pub returns-clause-after : goal.returns-clause-after
returns-clause-after g c =
    let m = g.C.Code.means c.args.self.now.code in
    let marks = c.args.self.now.sheet in
    let high = (g.met.C.Code.lawful c.args.self.now.code).sizes.n_high in
    let t = place_passes c.args.place c.places.result _ c.in_ok-check_place.ensures in
    let lp : c.args.place < m.n = omega (arith, t, c.places.ensures) in
    let long : m.n ≤ length marks = let e : length marks ≡ 240 = search rules in omega arith in
    strike_after m marks c.args.place _ lp long c.clear_letters.new.marks c.clear_letters.ensures.after
