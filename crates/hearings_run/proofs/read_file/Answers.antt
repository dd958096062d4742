use Rattle.std.proofs.Common.{rules}
use Rattle.hearings_run.proofs.Cut.{text_read}
use Rattle.hearings_run.proofs.read_file.Goals as goal

pub returns : goal.returns
returns g c = text_read (g.R.Read.remaining c.args.input) c.read_to_end.new.buf.items (search rules)
