use Rattle.std.proofs.Common.{rules, ◌≡◌, ℕ, ◌≤◌, List, length, sym, ap, ◌∙◌, subst, ap₂}
use Rattle.std.proofs.lemmas.List.{length-map}
use Rattle.sheet.specs.Standing.{stands, sheet_of}
use Rattle.code.specs.Messages.{span}
use Rattle.code.specs.Meaning.{listing, within}
use Rattle.code.specs.Answers.{reached, laid}
use Rattle.interpolation.specs.Pairs.{points_of, values_of}
use Rattle.interpolation.specs.declared.plan.Plan.{Plan}
use Rattle.interpolation.specs.declared.pairs.Pairs.{Pairs}
use Rattle.reed_solomon.specs.Values.{meaning_of}
use Rattle.reed_solomon.specs.Gathered.{pairs_of, fed}
use Rattle.reed_solomon.proofs.Recovered.{short, places, load_is, held_all, list_same, opens_in_reach, refused_out_of_reach}
use Rattle.reed_solomon.proofs.evaluation.ReedSolomon.recover.Goals as goal

pub offer_sheet-requires : goal.offer_sheet-requires
offer_sheet-requires g c =
    subst (λ z. z ≤ 256) (length-map c.args.sheet.now stands)
    (short (g.F.Field.means c.args.self.now.field) (g.met.F.Field.lawful c.args.self.now.field) c.args.self.now.n c.args.self.now.k c.args.self.now.kept (sheet_of c.args.sheet.now) c.args.t c.requires.whole)

pub returns-in-Ok : goal.returns-in-Ok
returns-in-Ok g c =
    let F = g.F.Field.means c.args.self.now.field in
    let L = g.met.F.Field.lawful c.args.self.now.field in
    let n = c.args.self.now.n in
    let k = c.args.self.now.k in
    let s = sheet_of c.args.sheet.now in
    let o = c.in-Ok.ensures in
    let load : c.load.result ≡ _ = load_is F L n k c.args.self.now.kept s c.args.t c.requires.whole c.load.result c.load.ensures in
    let plan : c.close.result.plan ≡ c.in-Ok.plan = c.close.ensures.plan ∙ c.offer_sheet.ensures.plan ∙ c.new-fitting.ensures.plan in
    let field : c.close.result.field.now ≡ c.args.self.now.field = c.close.ensures.field ∙ c.offer_sheet.ensures.field ∙ c.new-fitting.ensures.field in
    let limit : c.new-fitting.result.plan.limit ≡ _ = ap (λ (p : Plan). p.limit) c.new-fitting.ensures.plan ∙ o.3 ∙ load in
    let held : ◌≡◌ {A = List ℕ × List ℕ} (points_of c.close.result.pairs, values_of c.close.result.pairs) _ =
    ap (λ (p : Pairs). (points_of p, values_of p)) c.close.ensures.pairs
    ∙ held_all F L n k c.args.self.now.kept s c.args.t c.requires.whole c.new-fitting.result.plan.limit (length c.args.sheet.now) _ _ limit
    (sym (length-map c.args.sheet.now stands) ∙ places F L n k c.args.self.now.kept s c.args.t c.requires.whole)
    (ap₂ (λ u v. (u, v)) c.new-fitting.ensures.points c.new-fitting.ensures.values)
    (c.offer_sheet.ensures.held
    ∙ ap (λ z. fed (g.F.Field.means z) c.new-fitting.result.plan.limit (points_of c.new-fitting.result.pairs, values_of c.new-fitting.result.pairs) (pairs_of (span 0 (length c.args.sheet.now)) s)) c.new-fitting.ensures.field) in
    let list =
    list_same F L n k c.args.self.now.kept s c.args.t c.requires.whole (g.F.Field.means c.close.result.field.now) c.close.result.plan.k c.close.result.plan.t (points_of c.close.result.pairs) (values_of c.close.result.pairs)
    (ap g.F.Field.means field) (ap (λ (p : Plan). p.k) plan ∙ o.1) (ap (λ (p : Plan). p.t) plan ∙ o.2) held in
    let in_reach = opens_in_reach F L n k c.args.self.now.kept s c.args.t c.requires.whole c.requires.low c.requires.high c.load.result c.in-Ok.plan.r load o.0 in
    record {
      answer =
          c.walk.ensures.answer
          ∙ ap₂ (λ z l. reached z (length c.args.buf.now) l within) (ap (λ (p : Plan). p.k) plan ∙ o.1) list
          ∙ ap (reached k (length c.args.buf.now) (listing (meaning_of c.args.self.now) s c.args.t)) (sym in_reach);
      buffer = c.walk.ensures.buffer ∙ ap (λ l. laid (length c.args.buf.now) l c.walk.result) list;
    }

pub returns-in-Err : goal.returns-in-Err
returns-in-Err g c =
    let F = g.F.Field.means c.args.self.now.field in
    let L = g.met.F.Field.lawful c.args.self.now.field in
    let s = sheet_of c.args.sheet.now in
    record {
      answer =
          refused_out_of_reach F L c.args.self.now.n c.args.self.now.k c.args.self.now.kept s c.args.t c.requires.whole c.requires.low c.requires.high c.load.result (length c.args.buf.now) c.in-Err.fault
          (load_is F L c.args.self.now.n c.args.self.now.k c.args.self.now.kept s c.args.t c.requires.whole c.load.result c.load.ensures) c.in-Err.ensures;
      buffer = search rules;
    }
