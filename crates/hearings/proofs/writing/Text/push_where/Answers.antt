use Rattle.std.proofs.Common.{sym, ap}
use Rattle.hearings.specs.Lines.{where_out}
use Rattle.hearings.proofs.Wrote.{wrote_then, wrote_as}
use Rattle.hearings.proofs.writing.Text.push_where.Goals as goal

pub returns-in-Reach : goal.returns-in-Reach
returns-in-Reach c = wrote_as (ap where_out (sym c.in-Reach.is)) (wrote_then c.push_field.ensures c.push_field-in-Reach.ensures)
