use Rattle.std.proofs.Common.{rules, ◌≡◌, ℕ, ◌+◌, ◌*◌, ◌<◌, List, length, get_or, drop, sym, ◌∙◌, arith}
use Rattle.std.proofs.lemmas.List.{at_drop_more}
use Rattle.code.specs.Messages.{number_from}
use Rattle.code.proofs.Numbering.{number_grows, none_fits, fits_none}
use Rattle.code.proofs.messages.number_of.Goals as goal

-- one letter more
next : (p sum i all : ℕ) (xs : List ℕ) → i < length xs → number_from p sum (drop i xs) ≡ all → number_from p (sum * p + get_or xs i 0) (drop (i + 1) xs) ≡ all
next p sum i all xs h e = sym (at_drop_more (number_from p sum) xs i 0 h) ∙ e

pub returns-in_err-sum : goal.returns-in_err-sum
returns-in_err-sum c =
    let grown = number_grows (c.args.largest + 1) (c.loop-letter.sum * (c.args.largest + 1) + get_or c.args.message.now c.loop-letter.letter-index 0) (drop (c.loop-letter.letter-index + 1) c.args.message.now) (omega arith) in
    let none = none_fits (number_from (c.args.largest + 1) 0 c.args.message.now) (omega (arith, grown, fits_none _ c.in_err-sum.ensures, next (c.args.largest + 1) c.loop-letter.sum c.loop-letter.letter-index _ c.args.message.now c.loop-letter-test.true c.loop-letter.invariant.0)) in search (rules, none)
