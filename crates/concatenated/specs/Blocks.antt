-- The blocks of a sheet, and of the sheet with only a concatenated code's word.
use Rattle.std.specs.Prelude.{◌≡◌, ℕ, zero, suc, ◌+◌, ◌-◌, ◌*◌, ◌<◌, ◌≤◌, Bool, true, ltb, List, [], ◌∷◌, ◌++◌, map, length, take, drop, ◌==◌, nat_lt}
use Rattle.std.proofs.Math.Path.{refl, ap}
use Rattle.std.proofs.Common.{sym, ◌∙◌, subst, ⊎_elim, suc-mul, mul-le-mul_right, arith}
use Rattle.std.proofs.lemmas.List.{length-append, length-map, length-take-le, length-drop, append_assoc, map-append, take_at, drop_at}
use Rattle.std.proofs.lemmas.Bool.{and_parts, and_from, eq-eqb, eqb-true, cases_eq}
use Rattle.code.specs.Meaning.{Meaning, Verdict, within, beyond, is_sheet, below, only, clean}
use Rattle.sheet.specs.Letters.{Sheet}
use Rattle.code.specs.Messages.{every, is_row, each, span}
use Rattle.code.specs.Rule.{ListingRule, Inside}
use Rattle.code.proofs.Rows.{every_each, every_take, every_drop}
use Rattle.concatenated.specs.Lifted.{block}
use Rattle.concatenated.specs.Concatenation.{places_limit, reach_from, or_block}
use Rattle.concatenated.specs.Lifting.{Blocks}

-- f b, f (b + 1) and so on, c of them
abbrev pub from : {X : Type 0} → (ℕ → X) → ℕ → ℕ → List X
from f b c = map f (span b c)

-- how long the front of a table is
pub cut : {X : Type 0} {n k : ℕ} (xs : List X) → n ≡ k → k ≤ length xs → length (take (n - 0) xs) ≡ k
cut {X} {n} {k} xs e h = length-take-le (n - 0) xs (omega arith) ∙ (let z : n - 0 ≡ k = omega arith in z)

pub from_length : {X : Type 0} (f : ℕ → X) (b c : ℕ) → length (from f b c) ≡ c
unfolding span
from_length f b zero = refl
from_length f b (suc c) = ap suc (from_length f (suc b) c)

pub from_every : {X : Type 0} (h : X → Bool) (f : ℕ → X) (b c : ℕ) → ((i : ℕ) → b ≤ i → i < b + c → h (f i) ≡ true) → every h (from f b c) ≡ true
unfolding span
from_every h f b zero k = refl
from_every h f b (suc c) k = and_from _ _ (k b (omega arith) (omega arith)) (from_every h f (suc b) c (λ i l u. k i (omega arith) (omega arith)))

pub from_same : {X : Type 0} (f g : ℕ → X) (b c : ℕ) → ((i : ℕ) → b ≤ i → i < b + c → f i ≡ g i) → from f b c ≡ from g b c
unfolding span
from_same f g b zero k = refl
from_same f g b (suc c) k = ap (λ x. x ∷ from f (suc b) c) (k b (omega arith) (omega arith)) ∙ ap (λ xs. g b ∷ xs) (from_same f g (suc b) c (λ i l u. k i (omega arith) (omega arith)))

-- a word of rows
each_length : (f : ℕ → List ℕ) (h : ℕ → Bool) (n : ℕ) → ((v : ℕ) → h v ≡ true → length (f v) ≡ n) → (vs : List ℕ) → every h vs ≡ true → length (each f vs) ≡ length vs * n
each_length f h n k [] e = (let z : 0 ≡ 0 * n = omega arith in z)
each_length f h n k (v ∷ vs) e =
    let p = and_parts (h v) (every h vs) e in
    length-append (f v) (each f vs) ∙ ap (λ x. x + length (each f vs)) (k v p.0) ∙ ap (λ x. n + x) (each_length f h n k vs p.1)
    ∙ (let z = suc-mul (length vs) n in let w : n + length vs * n ≡ suc (length vs) * n = omega arith in w)

pub each_row : (f : ℕ → List ℕ) (q' n q : ℕ) → ((v : ℕ) → nat_lt v q' ≡ true → is_row n q (f v) ≡ true) → (c : ℕ) (vs : List ℕ) → is_row c q' vs ≡ true → is_row (c * n) q (each f vs) ≡ true
each_row f q' n q k c vs e =
    let p = and_parts (length vs == c) (every (λ l. ltb l q') vs) e in
    and_from _ _
    (eq-eqb (length (each f vs)) (c * n) (each_length f (λ l. ltb l q') n (λ v hv. eqb-true (length (f v)) n (and_parts (length (f v) == n) (every (λ l. ltb l q) (f v)) (k v hv)).0) vs p.1 ∙ ap (λ x. x * n) (eqb-true (length vs) c p.0)))
    (every_each (λ l. ltb l q) (λ l. ltb l q') f (λ v hv. (and_parts (length (f v) == n) (every (λ l. ltb l q) (f v)) (k v hv)).1) vs p.1)

module _ (f : ℕ → List ℕ) (h : ℕ → Bool) (n : ℕ) (k : (v : ℕ) → h v ≡ true → length (f v) ≡ n) where
  -- the block after `pre` is that of the first letter
  first_block : (pre : Sheet) (b v : ℕ) (vs : List ℕ) → length pre ≡ b * n → h v ≡ true → block n (pre ++ clean (each f (v ∷ vs))) b ≡ clean (f v)
  first_block pre b v vs e hv =
      ap (take n) (drop_at pre (clean (each f (v ∷ vs))) (b * n) e)
      ∙ ap (take n) (map-append only (f v) (each f vs))
      ∙ take_at (clean (f v)) (clean (each f vs)) n (length-map (f v) only ∙ k v hv)

  moved : (pre : Sheet) (v : ℕ) (vs : List ℕ) → pre ++ clean (each f (v ∷ vs)) ≡ (pre ++ clean (f v)) ++ clean (each f vs)
  moved pre v vs = ap (λ x. pre ++ x) (map-append only (f v) (each f vs)) ∙ sym (append_assoc pre (clean (f v)) (clean (each f vs)))

  longer : (pre : Sheet) (b v : ℕ) → length pre ≡ b * n → h v ≡ true → length (pre ++ clean (f v)) ≡ suc b * n
  longer pre b v e hv =
      length-append pre (clean (f v)) ∙ ap (λ x. x + length (clean (f v))) e ∙ ap (λ x. b * n + x) (length-map (f v) only ∙ k v hv)
      ∙ (let z = suc-mul b n in let w : b * n + n ≡ suc b * n = omega arith in w)

  pub from_clean : {X : Type 0} (F : Sheet → X) (pre : Sheet) (b : ℕ) (vs : List ℕ) → length pre ≡ b * n → every h vs ≡ true
      → from (λ i. F (block n (pre ++ clean (each f vs)) i)) b (length vs) ≡ map (λ v. F (clean (f v))) vs
  unfolding span
  from_clean F pre b [] e hs = refl
  from_clean F pre b (v ∷ vs) e hs =
      let p = and_parts (h v) (every h vs) hs in
      ap (λ x. F x ∷ from (λ i. F (block n (pre ++ clean (each f (v ∷ vs))) i)) (suc b) (length vs)) (first_block pre b v vs e p.0)
      ∙ ap (λ s. F (clean (f v)) ∷ from (λ i. F (block n s i)) (suc b) (length vs)) (moved pre v vs)
      ∙ ap (λ xs. F (clean (f v)) ∷ xs) (from_clean F (pre ++ clean (f v)) (suc b) vs (longer pre b v e p.0) p.1)

  pub reach_clean : (mi : Meaning) (a : ℕ) (after : Verdict) → mi.n ≡ n → ((v : ℕ) → h v ≡ true → mi.reach (clean (f v)) a ≡ within)
      → (pre : Sheet) (b : ℕ) (vs : List ℕ) → length pre ≡ b * n → every h vs ≡ true → reach_from mi a (pre ++ clean (each f vs)) b (length vs) after ≡ after
  unfolding reach_from
  reach_clean mi a after en r pre b [] e hs = refl
  reach_clean mi a after en r pre b (v ∷ vs) e hs =
      let p = and_parts (h v) (every h vs) hs in
      let s = pre ++ clean (each f (v ∷ vs)) in
      let rest = reach_from mi a s (suc b) (length vs) after in
      ap (λ x. or_block (b * mi.n) (mi.reach (block x s b) a) rest) en
      ∙ ap (λ x. or_block (b * mi.n) (mi.reach x a) rest) (first_block pre b v vs e p.0)
      ∙ ap (λ x. or_block (b * mi.n) x rest) (r v p.0)
      ∙ ap (λ x. reach_from mi a x (suc b) (length vs) after) (moved pre v vs)
      ∙ reach_clean mi a after en r (pre ++ clean (f v)) (suc b) vs (longer pre b v e p.0) p.1

-- a refusal lies inside
or_block_inside : (n total at : ℕ) (v after : Verdict) → Inside n v → at + n ≤ total → Inside total after → Inside total (or_block at v after)
or_block_inside n total at within after i h j = j
or_block_inside n total at (beyond level place) after i h j = omega arith

pub reach_inside : (mi : Meaning) (a : ℕ) (s : Sheet) (total : ℕ) (after : Verdict) → ((B : Sheet) → Inside mi.n (mi.reach B a)) → Inside total after
    → (b c : ℕ) → (b + c) * mi.n ≤ total → Inside total (reach_from mi a s b c after)
unfolding reach_from
reach_inside mi a s total after i j b zero h = j
reach_inside mi a s total after i j b (suc c) h =
    or_block_inside mi.n total (b * mi.n) _ _ (i (block mi.n s b))
    (let z = suc-mul b mi.n in let w : suc b * mi.n ≤ (b + suc c) * mi.n = mul-le-mul_right mi.n (omega arith) in omega arith)
    (reach_inside mi a s total after i j (suc b) c (let w : (suc b + c) * mi.n ≤ (b + suc c) * mi.n = mul-le-mul_right mi.n (omega arith) in omega arith))

-- in reach, each block is
or_block_within : (at : ℕ) (v after : Verdict) → or_block at v after ≡ within → (v ≡ within) × (after ≡ within)
or_block_within at within after e = (refl, e)
or_block_within at (beyond level place) after e = absurd (let z : ◌≡◌ {A = ℕ} 0 1 = cc in omega arith)

pub reach_each : (mi : Meaning) (a : ℕ) (s : Sheet) (after : Verdict) (b c : ℕ) → reach_from mi a s b c after ≡ within
    → (after ≡ within) × ((i : ℕ) → b ≤ i → i < b + c → mi.reach (block mi.n s i) a ≡ within)
unfolding reach_from
reach_each mi a s after b zero e = (e, λ i l u. absurd (omega arith))
reach_each mi a s after b (suc c) e =
    let p = or_block_within (b * mi.n) (mi.reach (block mi.n s b) a) (reach_from mi a s (suc b) c after) e in
    let r = reach_each mi a s after (suc b) c p.1 in (
      r.0,
      λ i l u. ⊎_elim (λ q. subst (λ x. mi.reach (block mi.n s x) a ≡ within) q p.0) (λ ne. r.1 i (let lt : b < i = omega arith in omega arith) (omega arith)) (cases_eq b i),
    )

-- the blocks of a sheet are sheets of the inner code
module _ (mi : Meaning) {total : ℕ} {s : Sheet} (bs : Blocks mi total s) (b : ℕ) (lt : b < total) where
  pub block_room : b * mi.n + mi.n ≤ length s
  block_room = let m : suc b * mi.n ≤ total * mi.n = mul-le-mul_right mi.n lt in let z = suc-mul b mi.n in omega (arith, bs.whole)

  pub block_sheet : is_sheet mi (block mi.n s b) ≡ true
  unfolding is_sheet
  block_sheet =
      let room = block_room in
      and_from _ _
      (eq-eqb _ mi.n (length-take-le mi.n (drop (b * mi.n) s) (let d = length-drop (b * mi.n) s in omega arith)))
      (every_take (below mi.q 256) mi.n (drop (b * mi.n) s) (every_drop (below mi.q 256) (b * mi.n) s bs.letters))

  -- a refusal's place in block b, as a place of the whole
  pub block_place : ListingRule mi → (a level place : ℕ) → mi.reach (block mi.n s b) a ≡ beyond level place → b * mi.n + place < places_limit
  block_place ri a level place e =
      let i : place < mi.n = subst (Inside mi.n) e (ri.reach_inside (block mi.n s b) a) in
      let room = block_room in
      omega (arith, bs.whole, bs.fits)
