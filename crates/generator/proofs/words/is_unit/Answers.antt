use Rattle.std.proofs.Common.{◌≡◌, ◌<◌, nat_eq, slice_index, sym, ap, ◌∙◌, arith, length-take-le}
use Rattle.std.proofs.lemmas.Bool.{eq-eqb, ne_eqb}
use Rattle.std.proofs.lemmas.List.{get_or-take}
use Rattle.generator.specs.Generator.{all_below, unit}
use Rattle.generator.proofs.Checks.{all_more, all_broken}
use Rattle.generator.proofs.words.is_unit.Goals as goal

pub returns-then-letter-unit : goal.returns-then-letter-unit
returns-then-letter-unit c =
    let here : c.loop-j.j < c.args.k = omega (arith, c.loop-j-test.true, length-take-le c.args.k c.args.row.now c.requires) in
    sym (all_broken c.args.k _ c.loop-j.j here (ne_eqb (slice_index c.args.row.now c.loop-j.j) (unit c.args.i c.loop-j.j)
    (λ q. c.if-letter-unit.true (get_or-take c.args.k c.args.row.now c.loop-j.j 0 here ∙ q ∙ sym c.unit.ensures))))

pub loop-j-preserved : goal.loop-j-preserved
loop-j-preserved c =
    let here : c.loop-j.j < c.args.k = omega (arith, c.loop-j-test.true, length-take-le c.args.k c.args.row.now c.requires) in
    all_more c.loop-j.j _ c.loop-j.invariant (eq-eqb _ _ (sym (get_or-take c.args.k c.args.row.now c.loop-j.j 0 here) ∙ c.if-letter-unit.false ∙ c.unit.ensures))

pub returns : goal.returns
returns c =
    let all : c.loop-j.j ≡ c.args.k = omega (arith, c.loop-j-test.false, c.loop-j.auto.j-end, length-take-le c.args.k c.args.row.now c.requires) in
    sym (ap (λ n. all_below n (λ j. nat_eq (slice_index c.args.row.now j) (unit c.args.i j))) (sym all) ∙ c.loop-j.invariant)
