use Rattle.std.proofs.Common.{sym, ap, ◌∙◌}
use Rattle.concatenated.specs.Values.{meaning_of as concatenated_meaning}
use Rattle.hearings.specs.File.{call as asked}
use Rattle.hearings.specs.Text.{turned}
use Rattle.hearings.specs.Readers.{book_of}
use Rattle.hearings.proofs.Chosen.{chosen_as}
use Rattle.hearings.proofs.readers.Reader.call.Goals as goal

pub returns-in-Slab-clause-book : goal.returns-in-Slab-clause-book
returns-in-Slab-clause-book c =
    chosen_as (ap (λ k. concatenated_meaning k) c.tell.ensures.same) c.tell.ensures.after ∙ ap (λ r. turned (book_of r) (asked c.args.call)) (sym c.in-Slab.is)

pub returns-in-Brine-clause-book : goal.returns-in-Brine-clause-book
returns-in-Brine-clause-book c =
    chosen_as (ap (λ k. concatenated_meaning k) c.tell-in-Brine.ensures.same) c.tell-in-Brine.ensures.after ∙ ap (λ r. turned (book_of r) (asked c.args.call)) (sym c.in-Brine.is)
