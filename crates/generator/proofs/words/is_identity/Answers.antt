use Rattle.std.proofs.Common.{◌+◌, ◌-◌, ◌*◌, sym, ◌∙◌, arith}
use Rattle.generator.specs.Generator.{unit_row}
use Rattle.generator.proofs.Checks.{all_more, all_broken, unit_row_is}
use Rattle.generator.proofs.words.is_identity.Goals as goal

pub returns-then-not-is_unit : goal.returns-then-not-is_unit
returns-then-not-is_unit c =
    let i = c.loop-i.i in
    let n = c.args.n in
    let row = unit_row_is c.args.table.now n c.args.k i (i * n + n - i * n) c.requires.k (omega arith) in
    sym (all_broken c.args.k (unit_row c.args.table.now n c.args.k) i c.loop-i-test.true (sym row ∙ sym c.if-not-is_unit.ensures))

pub loop-i-preserved : goal.loop-i-preserved
loop-i-preserved c =
    let i = c.loop-i.i in
    let n = c.args.n in
    let row = unit_row_is c.args.table.now n c.args.k i (i * n + n - i * n) c.requires.k (omega arith) in
    all_more i (unit_row c.args.table.now n c.args.k) c.loop-i.invariant (sym row ∙ sym c.if-not-is_unit.ensures)
