use Rattle.std.proofs.Common.{◌∙◌, subst, arith}
use Rattle.record.specs.Values.{letters_of}
use Rattle.record.specs.History.{call_at}
use Rattle.record.proofs.Serving.{Turn, sofar_more}
use Rattle.record.proofs.recording.Record.serve_all.Goals as goal

pub loop-i-preserved : goal.loop-i-preserved
loop-i-preserved g c =
    let means = g.C.Code.means in
    let told = c.serve_into.ensures in
    let was = c.loop-i.self in
    let last = c.serve_into.new in
    let calls = c.args.calls.now in
    let i = c.loop-i.i in
    let same = c.loop-i.invariant.0 in
    let turn : Turn (means was.code) (letters_of means was) (call_at calls i) i c.loop-i.at c.end_of-end.result c.loop-i.answers c.loop-i.buffers (letters_of means last.self) last.answers last.buffers =
    record { ended = c.end_of-end.ensures.end; after = told.after; answer = told.answer; buffer = told.buffer } in (
      told.same ∙ same,
      sofar_more calls c.loop-i.invariant.1
          (subst (λ k. Turn (means k) (letters_of means was) (call_at calls i) i c.loop-i.at c.end_of-end.result c.loop-i.answers c.loop-i.buffers (letters_of means last.self) last.answers last.buffers) same turn)
          (omega (arith, c.count_served-i-end.ensures, c.loop-i-test.true)) (omega (arith, c.count_served-i-end.ensures, c.loop-i-test.true, c.loop-i.auto.answers)) c.loop-i.auto.answers,
    )
