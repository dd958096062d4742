use Rattle.std.proofs.Common.{◌≡◌, ℕ, ◌+◌, ◌-◌, ◌≤◌, true, false, cond, List, [], length, take, drop, sym, refl, ap, ◌∙◌, ap₂, arith}
use borrow.Rule.Slice.PartMut.{put_mid}
use Rattle.std.proofs.lemmas.List.Edits.{paste_none}
use Rattle.std.proofs.lemmas.List.{length-drop, length-take-le}
use Rattle.std.proofs.lemmas.Slice.{put_mid-paste}
use Rattle.sheet.specs.Letters.{Sheet}
use Rattle.sheet.specs.Standing.{sheet_of}
use Rattle.code.specs.Meaning.{Meaning}
use Rattle.code.specs.Messages.{digits}
use Rattle.code.proofs.Numbering.{digits_length}
use Rattle.generator.specs.Steps.{message, passes, added, written}
use Rattle.generator.specs.Values.{meaning_of}
use Rattle.generator.proofs.table.Generator.put.Goals as goal

module _ (m : Meaning) (s : Sheet) (t v at : ℕ) (buf : List ℕ) where
  record Placed (next : ℕ) (after : List ℕ) : Type 0 where
    place : next ≡ at + length (added m s t v)
    buffer : after ≡ written at (added m s t v) buf

  -- a message that does not pass leaves all as it is
  left : false ≡ passes m s t v → Placed at buf
  left e =
      let none : added m s t v ≡ [] = ap (λ b. cond b (message m v) []) (sym e) in
      let z = ap length none in
      record { place = omega arith; buffer = paste_none buf at [] ∙ ap (λ x. written at x buf) (sym none) }

  module _ (e : true ≡ passes m s t v) where
    all : added m s t v ≡ message m v
    all = ap (λ b. cond b (message m v) []) (sym e)

    long : length (added m s t v) ≡ m.k
    long = ap length all ∙ digits_length m.p m.k v

    -- one that passes is written to its part of the buffer
    put : (p : ℕ) (ys : List ℕ) → at + length (added m s t v) ≤ length buf → p ≡ m.p → ys ≡ digits p (length (take (at + m.k - at) (drop at buf))) v → Placed (at + m.k) (put_mid at (at + m.k - at) buf ys)
    put p ys room ep ey =
        let l = long in
        let d = length-drop at buf in
        let part : length (take (at + m.k - at) (drop at buf)) ≡ m.k = length-take-le (at + m.k - at) (drop at buf) (omega arith) ∙ (let z : at + m.k - at ≡ m.k = omega arith in z) in
        record {
          place = omega arith;
          buffer = put_mid-paste at (at + m.k - at) buf ys (added m s t v) (length (added m s t v)) (ey ∙ ap₂ (λ a b. digits a b v) ep part ∙ sym all) (omega arith) refl;
        }

pub returns-then-not-passes : goal.returns-then-not-passes
returns-then-not-passes g c =
    let r = left (meaning_of c.args.self.now) (sheet_of c.args.sheet.now) c.args.t c.args.v c.args.at c.args.buf.now c.if-not-passes.ensures in
    record { place = r.place; buffer = r.buffer }

pub slice_bounds-spell-end : goal.slice_bounds-spell-end
slice_bounds-spell-end g c =
    let l = long (meaning_of c.args.self.now) (sheet_of c.args.sheet.now) c.args.t c.args.v c.args.at c.args.buf.now c.if-not-passes.ensures in
    omega (arith, c.requires.room)

pub returns : goal.returns
returns g c =
    let r = put (meaning_of c.args.self.now) (sheet_of c.args.sheet.now) c.args.t c.args.v c.args.at c.args.buf.now c.if-not-passes.ensures
    (c.largest.result + 1) c.spell.new.message c.requires.room c.largest.ensures c.spell.ensures in
    record { place = r.place; buffer = r.buffer }
