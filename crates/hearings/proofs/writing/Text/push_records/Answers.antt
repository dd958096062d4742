use Rattle.std.proofs.Common.{◌-◌, [], ◌++◌, length, Ok, sym, refl, ap, ◌∙◌, arith}
use Rattle.hearings.specs.File.{bad}
use Rattle.hearings.specs.Text.{unchosen, lines, turned}
use Rattle.hearings.specs.Values.{entry_of, front_of}
use Rattle.hearings.specs.Readers.{book_of}
use Rattle.hearings.proofs.Fronts.{left_in_file, all_left, next_entry, no_entry}
use Rattle.hearings.proofs.Texts.{lines_none, lines_next, lines_of_bad}
use Rattle.hearings.proofs.Wrote.{rest_all, rest_less, rest_as, rest_none}
use Rattle.hearings.proofs.writing.Text.push_records.Goals as goal

pub loop-item-init : goal.loop-item-init
loop-item-init c = (omega arith, rest_as (ap (lines unchosen) (all_left c.args.file.now)) (rest_all _ _))

pub loop-item-preserved : goal.loop-item-preserved
loop-item-preserved c =
    let total = length c.args.file.now in
    let left = c.loop-item.left.now in
    let rest = c.in-Ok-Some.rest.now in
    let entry = entry_of c.in-Ok-Some.item in
    let next = next_entry total left rest entry (ap (λ o. front_of (Ok o)) (sym c.in-Ok-Some.field-0-is) ∙ c.in-Ok-Some.ensures) in
    let now = lines_next (book_of c.loop-item.reader) (total - length left) entry _ _ next.0 in (
      omega (arith, next.1, c.loop-item.invariant.0),
      rest_as (ap (λ b. lines b (left_in_file total rest)) (sym c.turn.ensures.book)) (rest_less (rest_as now c.loop-item.invariant.1) c.turn.ensures.wrote),
    )

pub returns-in-Ok-None : goal.returns-in-Ok-None
returns-in-Ok-None c =
    let none = no_entry (length c.args.file.now) c.loop-item.left.now (ap (λ o. front_of (Ok o)) (sym c.in-Ok-None.field-0-is) ∙ c.in-Ok-None.ensures) in
    rest_none (rest_as (lines_none (book_of c.loop-item.reader) _ none) c.loop-item.invariant.1)

pub returns-in-Err : goal.returns-in-Err
returns-in-Err c =
    let total = length c.args.file.now in
    let left = c.loop-item.left.now in
    let book = book_of c.loop-item.reader in
    let entry = bad c.in-Err.fault in
    let next = next_entry total left [] entry c.in-Err.ensures in
    let last = lines_next book (total - length left) entry _ _ next.0 ∙ ap (λ t. t ++ lines (turned book entry) (left_in_file total [])) (lines_of_bad book (total - length left) c.in-Err.fault) in
    rest_none (rest_as (lines_none (turned book entry) _ (no_entry total [] refl)) (rest_less (rest_as last c.loop-item.invariant.1) c.push_refusal.ensures))
