use Rattle.std.proofs.Common.{length, replicate, ap, ◌∙◌, arith}
use Rattle.hearings.specs.Text.{text_of}
use Rattle.hearings.proofs.Bounds.{text_short}
use Rattle.hearings.proofs.Held.{held_fits, held_none}
use Rattle.hearings.proofs.reading.report.Goals as goal

pub returns-then-length-buffer-clause-text : goal.returns-then-length-buffer-clause-text
returns-then-length-buffer-clause-text c =
    let same = c.print-length.ensures.kept ∙ c.fill.ensures.len in
    c.fill-then-length-buffer.ensures.after (λ y e. e) ∙ ap (λ n. replicate n 0) same
    ∙ held_none (length c.args.buffer.now) (text_of c.args.file.now) (omega (arith, c.if-length-buffer.true, same, c.print-length.ensures.length))

pub returns-else-length-buffer-clause-text : goal.returns-else-length-buffer-clause-text
returns-else-length-buffer-clause-text c =
    let same = c.print-length.ensures.kept ∙ c.fill.ensures.len in
    held_fits (length c.args.buffer.now) (text_of c.args.file.now) c.fill.new.self c.print-length.new.buffer
    (c.fill.ensures.after (λ y e. e)) c.print-length.ensures.bytes
    (omega (arith, c.if-length-buffer.false, same, c.print-length.ensures.length)) (text_short c.args.file.now)
