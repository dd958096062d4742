use Rattle.std.proofs.Common.{◌<◌, ◌≤◌, subst, arith}
use Rattle.sheet.specs.Standing.{sheet_of}
use Rattle.generator.specs.Values.{meaning_of}
use Rattle.generator.proofs.Turns.{put_fits, put_more, put_all}
use Rattle.generator.proofs.table.Generator.write.Goals as goal

pub put-at-requires : goal.put-at-requires
put-at-requires g c =
    let two = (g.met.F.Field.lawful c.args.self.now.field).two in
    record {
      room = put_fits (meaning_of c.args.self.now) (sheet_of c.args.sheet.now) c.args.t c.args.buf.now c.loop-v.v c.loop-v.at c.loop-v.buf
          (omega arith) (subst (λ z. c.loop-v.v < z) c.total-v-end.ensures c.loop-v-test.true) c.loop-v.invariant c.requires.room c.loop-v.auto.buf;
    }

pub loop-v-preserved : goal.loop-v-preserved
loop-v-preserved g c =
    let two = (g.met.F.Field.lawful c.args.self.now.field).two in
    put_more (meaning_of c.args.self.now) (sheet_of c.args.sheet.now) c.args.t c.args.buf.now c.loop-v.v c.loop-v.at _ c.loop-v.buf _
    (omega arith) (subst (λ z. c.loop-v.v < z) c.total-v-end.ensures c.loop-v-test.true) c.loop-v.invariant c.put-at.ensures.place c.put-at.ensures.buffer

pub returns : goal.returns
returns g c =
    put_all (meaning_of c.args.self.now) (sheet_of c.args.sheet.now) c.args.t c.args.buf.now c.loop-v.v c.loop-v.at c.loop-v.buf
    (subst (λ z. z ≤ c.loop-v.v) c.total-v-end.ensures c.loop-v-test.false) c.loop-v.invariant c.requires.zeros
