use Rattle.std.proofs.Common.{rules}
use Rattle.record.specs.Values.{letters_of}
use Rattle.record.specs.Book.{fresh, ByTheBook}
use Rattle.record.proofs.Promised.{promised_by}
use Rattle.record.proofs.replaying.replay.Goals as goal

pub returns-clause-promise : goal.returns-clause-promise
returns-clause-promise g c =
    let means = g.C.Code.means in
    let m = means c.args.code in
    let calls = c.args.calls.now in
    let slots = c.args.answers.now in
    let bytes = c.args.buffers.now in
    let last = c.serve_all.new in
    let book : ByTheBook m (fresh m) calls slots bytes (letters_of means last.self) last.answers last.buffers = search rules in
    promised_by m (g.met.C.Code.lawful c.args.code) calls slots bytes (letters_of means last.self) last.answers last.buffers book
