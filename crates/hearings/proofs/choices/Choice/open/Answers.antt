use Rattle.std.proofs.Common.{Some, sym, ap, ◌∙◌}
use Rattle.record.specs.Book.{fresh}
use Rattle.concatenated.specs.Values.{meaning_of as concatenated_meaning}
use Rattle.hearings.specs.Text.{opened}
use Rattle.hearings.specs.Readers.{meaning_of}
use Rattle.hearings.proofs.Chosen.{chosen_as}
use Rattle.hearings.proofs.choices.Choice.open.Goals as goal

pub returns-in-Slab : goal.returns-in-Slab
returns-in-Slab c =
    chosen_as (ap (λ k. concatenated_meaning k) c.new.ensures.same ∙ c.slab_code.ensures.means) (c.new.ensures.blank ∙ ap fresh c.slab_code.ensures.means)
    ∙ ap (λ x. opened (Some (meaning_of x))) (sym c.in-Slab.is)

pub returns-in-Brine : goal.returns-in-Brine
returns-in-Brine c =
    chosen_as (ap (λ k. concatenated_meaning k) c.new-in-Brine.ensures.same ∙ c.brine_code.ensures.means) (c.new-in-Brine.ensures.blank ∙ ap fresh c.brine_code.ensures.means)
    ∙ ap (λ x. opened (Some (meaning_of x))) (sym c.in-Brine.is)
