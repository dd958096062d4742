use Rattle.std.proofs.Common.{rules, ◌≡◌, ℕ, ◌*◌, ◌^◌, ◌<◌, length, Ok, Err, sym, ap, ◌∙◌, subst, arith}
use Rattle.sheet.specs.Standing.{sheet_of}
use Rattle.concatenated.specs.Lifting.{Blocks}
use Rattle.concatenated.specs.Blocks.{cut}
use Rattle.concatenated.specs.Law.{blocks_of}
use Rattle.concatenated.proofs.Listed.{says_below, says_above, says_scaled, above_place}
use Rattle.concatenated.proofs.joining.Concatenated.recover.Goals as goal

pub lift_blocks-requires : goal.lift_blocks-requires
lift_blocks-requires g c =
    let mo = g.O.Code.means c.args.self.now.outer in
    let mi = g.I.Code.means c.args.self.now.inner in
    let ro = g.met.O.Code.lawful c.args.self.now.outer in
    let ri = g.met.I.Code.lawful c.args.self.now.inner in
    let j = c.args.self.now.joined in
    let s = sheet_of c.args.sheet.now in
    subst (λ z. Blocks mi z s) (sym (cut _ c.places.ensures ro.sizes.n_high)) (blocks_of mo mi c.args.self.now.agreement ro ri j s c.requires.asked.sheet)

pub returns-in-Err : goal.returns-in-Err
returns-in-Err g c =
    let ro = g.met.O.Code.lawful c.args.self.now.outer in
    let ri = g.met.I.Code.lawful c.args.self.now.inner in
    let r = says_below ro ri c.requires.asked (length c.args.buf.now) (sheet_of c.lift_blocks.new.above) _ (cut _ c.places.ensures ro.sizes.n_high) c.in-Err.reach c.in-Err.ensures in
    search (rules, r)

pub scaled-requires : goal.scaled-requires
scaled-requires g c =
    let ro = g.met.O.Code.lawful c.args.self.now.outer in
    let ri = g.met.I.Code.lawful c.args.self.now.inner in
    let p = above_place ro ri c.requires.asked (length c.args.buf.now) (sheet_of c.lift_blocks.new.above) _ (cut _ c.places.ensures ro.sizes.n_high) c.in_default.ensures c.in-Reach.reach (ap Err (sym c.in-Reach.is) ∙ c.in-Err-list.ensures.answer) in
    record { small = omega (arith, c.places-in-Reach.ensures, ri.sizes.n_high); fits = subst (λ n. c.in-Reach.reach.place * n < 2 ^ 16) (sym c.places-in-Reach.ensures) (omega arith) }

pub returns-in-Ok : goal.returns-in-Ok
returns-in-Ok g c =
    let ro = g.met.O.Code.lawful c.args.self.now.outer in
    let ri = g.met.I.Code.lawful c.args.self.now.inner in
    let e = c.in-Ok.ensures in
    let r = says_above ro ri c.requires.asked (length c.args.buf.now) (sheet_of c.lift_blocks.new.above) _ (cut _ c.places.ensures ro.sizes.n_high) c.in_default.ensures (Ok c.in-Ok.count) c.list.new.buf e.answer e.buffer (λ x q. let z : ◌≡◌ {A = ℕ} 0 1 = cc in omega arith) in
    record { answer = r.answer; buffer = r.buffer }

pub returns-in-Reach : goal.returns-in-Reach
returns-in-Reach g c =
    let ro = g.met.O.Code.lawful c.args.self.now.outer in
    let ri = g.met.I.Code.lawful c.args.self.now.inner in
    let e = c.in-Err-list.ensures in
    let place = c.scaled.ensures.place ∙ ap (λ n. c.in-Reach.reach.place * n) c.places-in-Reach.ensures in
    let r = says_scaled ro ri c.requires.asked (length c.args.buf.now) (sheet_of c.lift_blocks.new.above) _ (cut _ c.places.ensures ro.sizes.n_high) c.in_default.ensures c.in-Reach.reach c.scaled.result c.list.new.buf (ap Err (sym c.in-Reach.is) ∙ e.answer) e.buffer c.scaled.ensures.level place in
    record { answer = r.answer; buffer = r.buffer }

pub returns-in_default-fault : goal.returns-in_default-fault
returns-in_default-fault g c =
    let ro = g.met.O.Code.lawful c.args.self.now.outer in
    let ri = g.met.I.Code.lawful c.args.self.now.inner in
    let e = c.in-Err-list.ensures in
    let r = says_above ro ri c.requires.asked (length c.args.buf.now) (sheet_of c.lift_blocks.new.above) _ (cut _ c.places.ensures ro.sizes.n_high) c.in_default.ensures (Err c.in-Err-list.fault) c.list.new.buf e.answer e.buffer (λ x q. c.in_default-fault.not-Reach x (cc)) in
    record { answer = r.answer; buffer = r.buffer }
