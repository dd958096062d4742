use Rattle.std.proofs.Common.{length, sym, subst, rules}
use Rattle.sheet.specs.Standing.{sheet_of}
use Rattle.code.proofs.Answering.{admitted_parts, admitted_err}
use Rattle.reed_solomon.specs.Values.{meaning_of}
use Rattle.reed_solomon.specs.Few.{Few}
use Rattle.reed_solomon.proofs.Few.{reached_few}
use Rattle.reed_solomon.proofs.listing.ReedSolomonCode.list.Goals as goal

pub returns-in-Err-clause-buffer : goal.returns-in-Err-clause-buffer
returns-in-Err-clause-buffer g c =
    let zeros = admitted_err (meaning_of c.args.self.now) (sheet_of c.args.sheet.now) c.args.t (length c.args.buf.now) _ (sym c.in-Err.ensures) in
    search (rules, zeros)

pub returns-clause-few : goal.returns-clause-few
returns-clause-few g c =
    let admitted = admitted_parts (meaning_of c.args.self.now) (sheet_of c.args.sheet.now) c.args.t (sym c.in_default.ensures) in
    subst Few (sym c.recover.ensures.answer)
    (reached_few (g.F.Field.means c.args.self.now.field) (g.met.F.Field.lawful c.args.self.now.field) c.args.self.now.n c.args.self.now.k c.args.self.now.kept (sheet_of c.args.sheet.now) c.args.t (length c.args.buf.now)
    admitted.0 admitted.1)
