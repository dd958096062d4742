use Rattle.std.proofs.Common.{codes, sym, ap, ◌∙◌}
use Rattle.hearings.specs.Lines.{field}
use Rattle.hearings.proofs.Wrote.{wrote_then, wrote_as}
use Rattle.hearings.proofs.writing.Text.push_choice.Goals as goal

pub returns : goal.returns
returns g c =
    wrote_then c.push_field.ensures
    (wrote_then (wrote_as (ap (field (codes " family ")) (c.FAMILY.ensures ∙ sym (g.C.Code.family c.args.code.now))) c.push_field-2.ensures)
    (wrote_then (wrote_as (ap (field (codes " letters ")) c.letters.ensures) c.push_field-3.ensures)
    (wrote_then (wrote_as (ap (field (codes " places ")) c.places.ensures) c.push_field-4.ensures)
    (wrote_then (wrote_as (ap (field (codes " top ")) c.top.ensures) c.push_field-5.ensures)
    (wrote_then (wrote_as (ap (field (codes " least ")) c.least.ensures) c.push_field-6.ensures)
    c.end_line.ensures)))))
