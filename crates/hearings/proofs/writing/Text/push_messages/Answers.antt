use Rattle.std.proofs.Common.{◌*◌, length, sym, ap, ◌∙◌, arith, length-take-le}
use Rattle.code.specs.Messages.{each, rows}
use Rattle.hearings.specs.Lines.{message_line}
use Rattle.hearings.proofs.Wrote.{rest_all, rest_less, rest_as, rest_none}
use Rattle.code.proofs.Laid.{rows_front, rows_next, rows_none}
use Rattle.hearings.proofs.writing.Text.push_messages.Goals as goal

pub loop-message-init : goal.loop-message-init
loop-message-init c =
    let made = c.into_iter-message-iterator.ensures.into_iter_gives in
    let k = c.args.messages.k in
    let front = ap (λ s. s.rest.now) made ∙ c.chunks_exact-message-items.ensures.rest in
    let same = ap (λ l. each message_line (rows k c.args.messages.count l)) front ∙ ap (each message_line) (rows_front k c.args.messages.count c.args.messages.bytes.now) in (
      ap (λ s. s.size) made ∙ c.chunks_exact-message-items.ensures.size,
      (c.args.messages.count, ap length front ∙ length-take-le (c.args.messages.count * k) c.args.messages.bytes.now c.args.messages.room, rest_as (sym same) (rest_all _ _)),
    )

pub loop-message-preserved : goal.loop-message-preserved
loop-message-preserved c =
    let steps = c.in-Some.ensures.steps in
    let before = c.loop-message.invariant in
    let k = c.args.messages.k in
    let next = rows_next k before.1.0 c.in-Some.message.now c.next.new.self.rest.now c.args.messages.some (steps.1.1 ∙ before.0) (sym (ap length steps.1.0) ∙ before.1.1) in
    let now = ap (each message_line) (ap (rows k before.1.0) steps.1.0 ∙ next.2) in (
      steps.0 ∙ before.0,
      (next.0, next.1, rest_less (rest_as now before.1.2) c.push_message.ensures),
    )

pub returns : goal.returns
returns c =
    let steps = c.in-None.ensures.steps in
    let before = c.loop-message.invariant in
    rest_none (rest_as (ap (each message_line) (rows_none c.args.messages.k before.1.0 _ (omega (arith, steps.1.0, before.0)) before.1.1)) before.1.2)
