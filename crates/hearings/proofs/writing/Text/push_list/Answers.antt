use Rattle.hearings.proofs.Wrote.{wrote_then}
use Rattle.hearings.proofs.writing.Text.push_list.Goals as goal

pub returns : goal.returns
returns c = wrote_then (wrote_then c.push_field.ensures (wrote_then c.push_field-2.ensures c.end_line.ensures)) c.push_messages.ensures
