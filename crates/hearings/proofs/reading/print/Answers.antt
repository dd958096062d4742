use Rattle.std.proofs.Common.{◌≡◌, ap, ◌∙◌}
use Rattle.hearings.specs.Writing.{blank, page, puts}
use Rattle.hearings.specs.Text.{text_of}
use Rattle.hearings.proofs.Bounds.{text_short}
use Rattle.hearings.proofs.Held.{text_end}
use Rattle.hearings.proofs.reading.print.Goals as goal

pub returns-clause-length : goal.returns-clause-length
returns-clause-length c =
    let text = text_of c.args.file.now in
    let printed : page c.push_file.new.self ≡ puts (blank c.args.buffer.now) text = c.push_file.ensures.is ∙ ap (λ p. puts p text) c.new-text.ensures.empty in
    c.len.ensures ∙ ap (λ p. p.end) printed ∙ text_end c.args.buffer.now text (text_short c.args.file.now)
