use Rattle.std.proofs.Common.{codes, ap}
use Rattle.hearings.specs.Lines.{field}
use Rattle.hearings.proofs.Wrote.{wrote_then, wrote_as}
use Rattle.hearings.proofs.writing.Text.push_refusal.Goals as goal

pub returns : goal.returns
returns c =
    wrote_then (wrote_as (ap (field (codes "refused ")) c.number.ensures) c.push_field.ensures)
    (wrote_then c.push_field-2.ensures
    (wrote_then c.push_where.ensures c.end_line.ensures))
