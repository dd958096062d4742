-- The blocks lifted one after another.
use Rattle.std.proofs.Common.{◌≡◌, ℕ, zero, suc, ◌+◌, ◌-◌, ◌*◌, ◌<◌, min, List, [], ◌∷◌, ◌++◌, map, length, take, drop, set, Ok, Err, Result, sym, refl, ap, ◌∙◌, subst, ap₂, arith}
use Rattle.std.proofs.lemmas.List.{take_all, take-map, drop-map, take_more_set, map_push}
use Rattle.sheet.specs.Letters.{Letters, Sheet}
use Rattle.sheet.specs.Standing.{stands}
use Rattle.sheet.specs.declared.marks.Marks.{Marks}
use Rattle.fault.specs.declared.Reach.{Reach}
use Rattle.code.specs.Meaning.{Meaning, Verdict, beyond, listing}
use Rattle.code.specs.Messages.{span}
use Rattle.concatenated.specs.Lifted.{block, if_within, lift, lifted}
use Rattle.concatenated.specs.Concatenation.{reach_from, or_block}
use Rattle.concatenated.specs.Lifting.{LiftsAt, LiftsAll}
use Rattle.concatenated.specs.Blocks.{from}

pub from_push : {X : Type 0} (f : ℕ → X) (b c : ℕ) → from f b (suc c) ≡ from f b c ++ f (b + c) ∷ []
unfolding span
from_push f b zero = ap (λ z. f z ∷ []) (let z : b ≡ b + 0 = omega arith in z)
from_push f b (suc c) = ap (λ z. f b ∷ z) (from_push f (suc b) c ∙ ap (λ z. from f (suc b) c ++ f z ∷ []) (let z : suc b + c ≡ b + suc c = omega arith in z))

-- the marks of block b
pub block_of : (n b : ℕ) (ms : List Marks) → map stands (block n ms b) ≡ block n (map stands ms) b
block_of n b ms = sym (take-map stands n (drop (b * n) ms)) ∙ ap (take n) (sym (drop-map stands (b * n) ms))

-- the block of the marks is that of the sheet
pub lifts_block : (mi : Meaning) (a n b : ℕ) (ms : List Marks) (r : Result Marks Reach) → n ≡ mi.n
    → LiftsAt mi a (map stands (block n ms b)) (b * n) r → LiftsAt mi a (block mi.n (map stands ms) b) (b * mi.n) r
lifts_block mi a n b ms r e h =
    subst (λ z. LiftsAt mi a (block z (map stands ms) b) (b * z) r) e (subst (λ z. LiftsAt mi a z (b * n) r) (block_of n b ms) h)

-- after b of the blocks: they were in reach, and the first b outer places have their letters
pub record Risen (mi : Meaning) (a : ℕ) (s : Sheet) (total b : ℕ) (above : List Marks) : Type 0 where
  pub before : (after : Verdict) → reach_from mi a s 0 total after ≡ reach_from mi a s b (total - b) after
  pub front : map stands (take b above) ≡ from (λ i. lift mi a (block mi.n s i)) 0 b

module _ (mi : Meaning) (a : ℕ) (s : Sheet) where
  abbrev at : ℕ → Letters
  at b = lift mi a (block mi.n s b)

  pub risen_none : (total : ℕ) (above : List Marks) → Risen mi a s total 0 above
  unfolding span
  risen_none total above = record { before = λ after. ap (λ z. reach_from mi a s 0 z after) (let z : total ≡ total - 0 = omega arith in z); front = refl }

  module _ {total b : ℕ} {above : List Marks} (r : Risen mi a s total b above) (long : length above ≡ total) (lt : b < total) where
    step : (after : Verdict) → reach_from mi a s 0 total after ≡ or_block (b * mi.n) (mi.reach (block mi.n s b) a) (reach_from mi a s (suc b) (total - suc b) after)
    unfolding reach_from
    step after = r.before after ∙ ap (λ z. reach_from mi a s b z after) (let z : total - b ≡ suc (total - suc b) = omega arith in z)

    pub risen_more : (m : Marks) → LiftsAt mi a (block mi.n s b) (b * mi.n) (Ok m) → Risen mi a s total (b + 1) (set above b m)
    risen_more m h = record {
      before = λ after.
          step after ∙ ap (λ z. or_block (b * mi.n) z (reach_from mi a s (suc b) (total - suc b) after)) h.0
          ∙ ap (λ z. reach_from mi a s z (total - z) after) (let z : suc b ≡ b + 1 = omega arith in z);
      front =
          ap (map stands) (take_more_set above b m (omega arith)) ∙ map_push stands (take b above) m ∙ ap (λ z. z ++ stands m ∷ []) r.front
          ∙ ap (λ z. from at 0 b ++ z ∷ []) (h.1 ∙ sym (ap (λ v. if_within v mi.p (listing mi (block mi.n s b) a)) h.0) ∙ ap at (let z : b ≡ 0 + b = omega arith in z))
          ∙ sym (from_push at 0 b) ∙ ap (from at 0) (let z : suc b ≡ b + 1 = omega arith in z);
    }

    pub risen_beyond : (e : Reach) → LiftsAt mi a (block mi.n s b) (b * mi.n) (Err e) → (after : Verdict) → reach_from mi a s 0 total after ≡ beyond e.level e.place
    risen_beyond e h after = step after ∙ h (reach_from mi a s (suc b) (total - suc b) after)

  pub risen_all : {total b : ℕ} {above : List Marks} → Risen mi a s total b above → length above ≡ total → b ≡ total → LiftsAll mi a s total (map stands above) (Ok tt)
  unfolding lifted reach_from
  risen_all {total} {b} {above} r long e = (
    λ after. r.before after ∙ ap (λ z. reach_from mi a s b z after) (let z : total - b ≡ 0 = omega arith in z),
    sym (ap (map stands) (take_all b above (omega arith))) ∙ r.front ∙ ap (from at 0) e,
  )

-- one block out of reach, as the whole tells it
pub raised_beyond : (v : Verdict) (first : ℕ) (e r : Reach) → v ≡ beyond e.level e.place → r.level ≡ min 255 (e.level + 1) → r.place ≡ first + e.place
    → (after : Verdict) → or_block first v after ≡ beyond r.level r.place
raised_beyond v first e r ev el ep after = ap (λ z. or_block first z after) ev ∙ ap₂ beyond (sym el) (sym ep)
