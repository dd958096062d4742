use Rattle.std.proofs.Common.{rules, ◌≡◌, ◌+◌, ◌*◌, ◌<◌, ◌≤◌, true, length, Ok, Err, sym, ap, ◌∙◌, subst, arith}
use Rattle.std.proofs.lemmas.List.{length-map}
use Rattle.sheet.specs.Standing.{stands, sheet_of}
use Rattle.code.specs.Meaning.{is_sheet}
use Rattle.concatenated.specs.Lifted.{block}
use Rattle.concatenated.specs.Concatenation.{places_limit}
use Rattle.concatenated.specs.Blocks.{block_room, block_sheet}
use Rattle.concatenated.proofs.Risen.{block_of, lifts_block, risen_none, risen_more, risen_beyond, risen_all}
use Rattle.concatenated.proofs.joining.Concatenated.lift_blocks.Goals as goal

pub loop-b-init : goal.loop-b-init
loop-b-init g c = risen_none (g.I.Code.means c.args.self.now.inner) c.args.self.now.agreement (sheet_of c.args.sheet.now) _ _

pub lift_at-requires : goal.lift_at-requires
lift_at-requires g c =
    let mi = g.I.Code.means c.args.self.now.inner in
    let sheet = c.args.sheet.now in
    let b = c.loop-b.b in
    let lt : b < length c.args.above.now = omega (arith, c.loop-b-test.true) in
    let room : b * mi.n + mi.n ≤ length sheet = (let r = block_room mi c.requires b lt in omega (arith, length-map sheet stands)) in
    record {
      width = c.places-n.ensures;
      inside = subst (λ n. b * n + n ≤ length sheet) (sym c.places-n.ensures) room;
      few = subst (λ n. b * n + n ≤ places_limit) (sym c.places-n.ensures) (omega (arith, length-map sheet stands, c.requires.whole, c.requires.fits));
      whole = subst (λ n. is_sheet mi (sheet_of (block n sheet b)) ≡ true) (sym c.places-n.ensures) (ap (is_sheet mi) (block_of mi.n b sheet) ∙ block_sheet mi c.requires b lt);
    }

pub loop-b-preserved : goal.loop-b-preserved
loop-b-preserved g c =
    let mi = g.I.Code.means c.args.self.now.inner in
    risen_more mi c.args.self.now.agreement (sheet_of c.args.sheet.now) c.loop-b.invariant c.loop-b.auto.above (omega (arith, c.loop-b-test.true)) c.in_ok-above.field-0
    (lifts_block mi c.args.self.now.agreement c.places-n.result c.loop-b.b c.args.sheet.now (Ok c.in_ok-above.field-0) c.places-n.ensures c.in_ok-above.ensures)

pub returns-in_err-above : goal.returns-in_err-above
returns-in_err-above g c =
    let mi = g.I.Code.means c.args.self.now.inner in
    let r = risen_beyond mi c.args.self.now.agreement (sheet_of c.args.sheet.now) c.loop-b.invariant c.loop-b.auto.above (omega (arith, c.loop-b-test.true)) c.in_err-above.field-0.0
    (lifts_block mi c.args.self.now.agreement c.places-n.result c.loop-b.b c.args.sheet.now (Err c.in_err-above.field-0.0) c.places-n.ensures c.in_err-above.ensures) in
    search (rules, r)

pub returns : goal.returns
returns g c =
    risen_all (g.I.Code.means c.args.self.now.inner) c.args.self.now.agreement (sheet_of c.args.sheet.now) c.loop-b.invariant c.loop-b.auto.above (omega (arith, c.loop-b.auto.b-end, c.loop-b-test.false))
