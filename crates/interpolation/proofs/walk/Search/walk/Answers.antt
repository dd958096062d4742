use Rattle.std.proofs.Common.{◌≡◌, ◌<◌, ◌*◌, length, replicate, ap, ◌∙◌, subst, None, rules}
use Rattle.interpolation.specs.Pairs.{points, values}
use Rattle.interpolation.specs.Recovered.{recovered}
use Rattle.interpolation.specs.Walk.{Held, Stored}
use Rattle.interpolation.proofs.Stores.{says_some, says_none, lays_some}
use Rattle.interpolation.proofs.Starts.{start, whole}
use Rattle.interpolation.proofs.walk.Search.walk.Goals as goal

pub descend-requires-clause-descent : goal.descend-requires-clause-descent
descend-requires-clause-descent g c =
    let s = c.args.self.now in
    let b = c.args.bound in
    start (g.F.Field.means s.field.now) (g.met.F.Field.lawful s.field.now) s.k s.t b.weight b.degree c.height.result s.pairs.now c.args.curve.now.cells
    c.requires.weight c.requires.light c.requires.covers c.height.ensures.rest _ _ _

pub returns-in_default : goal.returns-in_default
returns-in_default g c =
    let s = c.args.self.now in
    let F = g.F.Field.means s.field.now in
    let len = length c.args.buf.now in
    let list = recovered F s.k s.t (points s.pairs.now) (values s.pairs.now) in
    let clear : c.fill.new.self ≡ replicate len 0 = search rules in
    let same : length c.descend.new.buf ≡ len = c.descend.ensures.size ∙ c.fill.ensures.len in
    let none : c.descend.result ≡ None = search rules in
    let over : length c.descend.new.buf < s.k * length list =
    subst (Stored s.k list c.descend.new.buf) none (whole F s.k s.t s.pairs.now len c.fill.new.self c.descend.new.buf c.descend.result clear c.descend.ensures.held) in
    let zeros : c.fill-in_default.new.self ≡ replicate (length c.descend.new.buf) 0 = search rules in
    record {
      answer = says_none s.k len list c.descend.new.buf same over;
      buffer = zeros ∙ ap (λ n. replicate n 0) same;
    }

pub returns : goal.returns
returns g c =
    let s = c.args.self.now in
    let F = g.F.Field.means s.field.now in
    let len = length c.args.buf.now in
    let list = recovered F s.k s.t (points s.pairs.now) (values s.pairs.now) in
    let clear : c.fill.new.self ≡ replicate len 0 = search rules in
    let same : length c.descend.new.buf ≡ len = c.descend.ensures.size ∙ c.fill.ensures.len in
    let held : Held s.k list c.descend.new.buf c.in-Some.used =
    subst (Stored s.k list c.descend.new.buf) c.in-Some.is (whole F s.k s.t s.pairs.now len c.fill.new.self c.descend.new.buf c.descend.result clear c.descend.ensures.held) in
    record {
      answer = says_some s.k len list c.descend.new.buf same c.in-Some.used s.some held;
      buffer = lays_some s.k len list c.descend.new.buf same c.in-Some.used held;
    }
