use Rattle.std.proofs.Common.{◌*◌, sym, ap, ◌∙◌, subst, arith}
use Rattle.code.specs.Messages.{is_row}
use Rattle.generator.specs.Generator.{gen_shaped, Table}
use Rattle.generator.proofs.Made.{rows_fit, table_made}
use Rattle.generator.proofs.table.Generator.new.Goals as goal

pub pad-table-requires : goal.pad-table-requires
pad-table-requires g c = rows_fit _ c.args.n c.args.k c.args.rows.now (sym c.if-not-is_shaped.ensures) (sym c.if-not-is_row.ensures)

pub invariant_of-result : goal.invariant_of-result
invariant_of-result g c =
    let two = (g.met.F.Field.lawful c.args.field).two in
    let e = c.size-q.ensures in
    record {
      kept = subst (λ z. Table (g.F.Field.means c.args.field) z c.args.n c.args.k) (sym c.pad-table.ensures)
          (table_made (g.F.Field.means c.args.field) c.args.rows.now c.args.n c.args.k (omega arith)
          (ap (λ z. gen_shaped z c.args.n c.args.k) (sym e) ∙ sym c.if-not-is_shaped.ensures)
          (ap (λ z. is_row (c.args.k * c.args.n) z c.args.rows.now) (sym e) ∙ sym c.if-not-is_row.ensures)
          (sym c.if-not-is_identity.ensures));
    }
