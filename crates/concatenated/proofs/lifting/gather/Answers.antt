use Rattle.std.proofs.Common.{◌+◌, ◌*◌, ltb, length, sym, ap, ◌∙◌, arith, length-take-le}
use Rattle.std.proofs.lemmas.Bool.{and_parts, ltb-true}
use Rattle.sheet.specs.Letters.{none, union}
use Rattle.sheet.specs.Standing.{stands}
use Rattle.code.specs.Messages.{every, number, rows}
use Rattle.code.proofs.Laid.{rows_front, rows_next, rows_none}
use Rattle.concatenated.specs.Lifted.{numbers}
use Rattle.concatenated.proofs.Gathered.{numbers_next, none_left}
use Rattle.concatenated.proofs.lifting.gather.Goals as goal

pub loop-message-init : goal.loop-message-init
loop-message-init c =
    let made = c.into_iter-message-iterator.ensures.into_iter_gives in
    let k = c.args.k in
    let p = c.args.last + 1 in
    let front = ap (λ s. s.rest.now) made ∙ c.chunks_exact-message-items.ensures.rest in
    let same = ap (rows k c.args.count) front ∙ rows_front k c.args.count c.args.found.now in (
      ap (λ s. s.size) made ∙ c.chunks_exact-message-items.ensures.size,
      (
        c.args.count,
        ap length front ∙ length-take-le (c.args.count * k) c.args.found.now c.requires.room,
        ap (λ s. union s (numbers p (rows k c.args.count c.into_iter-message-iterator.result.rest.now))) c.new-marks.ensures ∙ ap (numbers p) same,
        ap (every (λ m. ltb (number p m) 256)) same ∙ c.requires.fits,
      ),
    )

pub letter_of-requires : goal.letter_of-requires
letter_of-requires c =
    let steps = c.in-Some.ensures.steps in
    let before = c.loop-message.invariant in
    let k = c.args.k in
    let p = c.args.last + 1 in
    let next = rows_next k before.1.0 c.in-Some.message.now c.next.new.self.rest.now c.requires.some (steps.1.1 ∙ before.0) (sym (ap length steps.1.0) ∙ before.1.1) in
    let fits = sym (ap (λ l. every (λ m. ltb (number p m) 256) (rows k before.1.0 l)) steps.1.0 ∙ ap (every (λ m. ltb (number p m) 256)) next.2) ∙ before.1.3 in
    ltb-true _ 256 (and_parts _ _ fits).0

pub loop-message-preserved : goal.loop-message-preserved
loop-message-preserved c =
    let steps = c.in-Some.ensures.steps in
    let before = c.loop-message.invariant in
    let k = c.args.k in
    let p = c.args.last + 1 in
    let next = rows_next k before.1.0 c.in-Some.message.now c.next.new.self.rest.now c.requires.some (steps.1.1 ∙ before.0) (sym (ap length steps.1.0) ∙ before.1.1) in
    let now = ap (rows k before.1.0) steps.1.0 ∙ next.2 in
    let fits = sym (ap (every (λ m. ltb (number p m) 256)) now) ∙ before.1.3 in (
      steps.0 ∙ before.0,
      (
        next.0,
        next.1,
        ap (λ s. union s (numbers p (rows k next.0 c.next.new.self.rest.now))) (c.insert.ensures ∙ ap (λ v. Rattle.sheet.specs.Letters.join v (stands c.loop-message.marks)) c.letter_of.ensures)
            ∙ numbers_next p (stands c.loop-message.marks) c.in-Some.message.now (rows k next.0 c.next.new.self.rest.now)
            ∙ sym (ap (λ l. union (stands c.loop-message.marks) (numbers p l)) now) ∙ before.1.2,
        (and_parts _ _ fits).1,
      ),
    )

pub returns : goal.returns
returns c =
    let steps = c.in-None.ensures.steps in
    let before = c.loop-message.invariant in
    let p = c.args.last + 1 in
    sym (none_left p (stands c.loop-message.marks))
    ∙ sym (ap (λ l. union (stands c.loop-message.marks) (numbers p l)) (rows_none c.args.k before.1.0 _ (omega (arith, steps.1.0, before.0)) before.1.1)) ∙ before.1.2
