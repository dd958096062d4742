use Rattle.std.proofs.Common.{◌≡◌, ◌*◌, ◌≤◌, true, ltb, length, sym, ◌∙◌, subst, ap₂}
use Rattle.sheet.specs.Standing.{sheet_of}
use Rattle.code.specs.Messages.{every, number, rows}
use Rattle.concatenated.specs.Lifted.{numbers}
use Rattle.concatenated.specs.Law.{listable}
use Rattle.concatenated.proofs.Lifted.{lift_err, lift_within, lift_room, lift_fits, lift_numbers}
use Rattle.concatenated.proofs.joining.Concatenated.lift_block.Goals as goal

pub gather-requires : goal.gather-requires
gather-requires g c =
    let mi = g.I.Code.means c.args.self.now.inner in
    let ri = g.met.I.Code.lawful c.args.self.now.inner in
    let li = listable (g.O.Code.means c.args.self.now.outer) mi c.args.self.now.agreement (g.met.O.Code.lawful c.args.self.now.outer) ri c.args.self.now.joined in
    let B = sheet_of c.args.part.now in
    let bytes = c.list.new.buf in
    let count = c.in-Ok.count in
    let e = c.in-Ok.ensures in
    record {
      some = subst (λ k. 1 ≤ k) (sym c.dimension.ensures) ri.sizes.k_low;
      room = subst (λ k. count * k ≤ length bytes) (sym c.dimension.ensures) (lift_room mi c.args.self.now.agreement B ri li c.requires count bytes e.answer e.buffer);
      fits =
          subst (λ p. every (λ m. ltb (number p m) 256) (rows c.dimension.result count bytes) ≡ true) (sym c.largest.ensures)
          (subst (λ k. every (λ m. ltb (number mi.p m) 256) (rows k count bytes) ≡ true) (sym c.dimension.ensures) (lift_fits mi c.args.self.now.agreement B ri li c.requires count bytes e.answer e.buffer));
    }

pub unreachable-requires : goal.unreachable-requires
unreachable-requires g c =
    let mi = g.I.Code.means c.args.self.now.inner in
    let ri = g.met.I.Code.lawful c.args.self.now.inner in
    let li = listable (g.O.Code.means c.args.self.now.outer) mi c.args.self.now.agreement (g.met.O.Code.lawful c.args.self.now.outer) ri c.args.self.now.joined in
    let x = lift_err mi c.args.self.now.agreement (sheet_of c.args.part.now) ri li c.requires c.in-Err.fault c.in-Err.ensures.answer in
    c.in_default.not-Reach x.0 x.1.0

pub returns-in-Ok : goal.returns-in-Ok
returns-in-Ok g c =
    let mi = g.I.Code.means c.args.self.now.inner in
    let ri = g.met.I.Code.lawful c.args.self.now.inner in
    let li = listable (g.O.Code.means c.args.self.now.outer) mi c.args.self.now.agreement (g.met.O.Code.lawful c.args.self.now.outer) ri c.args.self.now.joined in
    let B = sheet_of c.args.part.now in
    let bytes = c.list.new.buf in
    let count = c.in-Ok.count in
    let e = c.in-Ok.ensures in (
      lift_within mi c.args.self.now.agreement B ri li c.requires count bytes e.answer e.buffer,
      c.gather.ensures ∙ ap₂ (λ p k. numbers p (rows k count bytes)) c.largest.ensures c.dimension.ensures
          ∙ lift_numbers mi c.args.self.now.agreement B ri li c.requires count bytes e.answer e.buffer,
    )
