use Rattle.std.proofs.Common.{◌≡◌}
use Rattle.record.specs.Values.{letters_of}
use Rattle.record.specs.Book.{served}
use Rattle.record.proofs.Serving.{Sofar}
use Rattle.record.proofs.recording.Record.serve_all.Given as goal

abbrev pub invariant-loop-i : goal.invariant-loop-i
invariant-loop-i g l =
    let means = g.C.Code.means in
    (l.self.code ≡ l.initial.self.code)
    × Sofar (means l.initial.self.code) (served l.calls l.initial.answers) (letters_of means l.initial.self) l.initial.answers l.initial.buffers l.i l.at (letters_of means l.self) l.answers l.buffers
