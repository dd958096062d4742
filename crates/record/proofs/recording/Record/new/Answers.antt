use Rattle.record.proofs.Places.{standing_new}
use Rattle.record.proofs.recording.Record.new.Goals as goal

pub returns-clause-blank : goal.returns-clause-blank
returns-clause-blank g c = standing_new (g.C.Code.means c.args.code) c.new-blank.result 240 (g.met.C.Code.lawful c.args.code).sizes.n_high c.new-blank.ensures
