use Rattle.std.proofs.Common.{sym, ◌∙◌, arith}
use Rattle.algebra.proofs.Inverses.{inverse_found}
use Rattle.field.proofs.traits.Field.inv.Goals as goal

pub returns-then-mul-eq1 : goal.returns-then-mul-eq1
returns-then-mul-eq1 g c =
    let F = g.Self.Field.means c.args.self.now in
    inverse_found F (g.met.Self.Field.lawful c.args.self.now) c.args.a c.loop-b.b
    (omega (arith, c.size-b-end.ensures)) (sym c.mul.ensures ∙ c.if-mul-eq1.true)
