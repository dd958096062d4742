use Rattle.std.proofs.Common.{rules}
use Rattle.code.proofs.Below.{sheet_is}
use Rattle.code.proofs.traits.Code.check_list.Goals as goal

pub returns-then-not-is_sheet : goal.returns-then-not-is_sheet
returns-then-not-is_sheet g c = search (rules, sheet_is (g.Self.Code.means c.args.self.now) c.args.sheet.now _ _ _ c.is_sheet.ensures c.places.ensures c.letters.ensures)

pub returns-then-not-is_agreement : goal.returns-then-not-is_agreement
returns-then-not-is_agreement g c = search (rules, sheet_is (g.Self.Code.means c.args.self.now) c.args.sheet.now _ _ _ c.is_sheet.ensures c.places.ensures c.letters.ensures)

pub returns : goal.returns
returns g c = search (rules, sheet_is (g.Self.Code.means c.args.self.now) c.args.sheet.now _ _ _ c.is_sheet.ensures c.places.ensures c.letters.ensures)
