-- A concatenated code's list from that of its outer code.
use Rattle.std.proofs.Common.{◌≡◌, ℕ, ◌*◌, ◌<◌, ◌≤◌, Bool, true, false, cond, ◌&&◌, eqb, leb, List, map, length, replicate, Ok, Err, Result, sym, ap, ◌∙◌, subst, mul-lt-mul_of_pos_right, arith}
use Rattle.std.proofs.lemmas.List.{length-map}
use Rattle.std.proofs.lemmas.Bool.{cond-true, and_from, le-leb}
use Rattle.sheet.specs.Standing.{stands}
use Rattle.sheet.specs.declared.marks.Marks.{Marks}
use Rattle.fault.specs.declared.Fault.{Fault}
use Rattle.fault.specs.declared.Fault.TheVariants.{Reach as OutOfReach, Short}
use Rattle.fault.specs.declared.Reach.{Reach}
use Rattle.code.specs.Meaning.{Meaning, Verdict, within, beyond, below, is_sheet, listing}
use Rattle.sheet.specs.Letters.{Sheet}
use Rattle.code.specs.Messages.{every}
use Rattle.code.specs.Rule.{ListingRule, Inside}
use Rattle.code.specs.Answers.{listed, shown, reached, laid}
use Rattle.code.proofs.Answering.{Said, says_reach}
use Rattle.concatenated.specs.Lifted.{lifted}
use Rattle.concatenated.specs.Concatenation.{places_limit, concatenated, reach_from, scaled_by}
use Rattle.concatenated.specs.Lifting.{InRange, LiftsAll}
use Rattle.concatenated.specs.Law.{lifted_sheet}

-- past the tests, an answer goes by the verdict
pub past_tests : (m : Meaning) (s : Sheet) (t len : ℕ) → is_sheet m s ≡ true → 1 ≤ t → t ≤ m.top → listed m s t len ≡ reached m.k len (listing m s t) (m.reach s t)
past_tests m s t len hs lo hi = cond-true (is_sheet m s) _ _ hs ∙ cond-true (leb 1 t && leb t m.top) _ _ (and_from _ _ (le-leb 1 t lo) (le-leb t m.top hi))

-- the sheet test, at the numbers that the code holds
pub tested : (mo mi : Meaning) (a : ℕ) (ms : List Marks) (n q : ℕ) → n ≡ mo.n * mi.n → q ≡ mi.q
    → (eqb (length ms) n && every (below q 256) (map stands ms)) ≡ is_sheet (concatenated mo mi a) (map stands ms)
unfolding is_sheet
tested mo mi a ms n q en eq =
    ap (λ z. eqb (length ms) z && every (below q 256) (map stands ms)) en
    ∙ ap (λ z. eqb (length ms) (mo.n * mi.n) && every (below z 256) (map stands ms)) eq
    ∙ ap (λ z. eqb z (mo.n * mi.n) && every (below mi.q 256) (map stands ms)) (sym (length-map ms stands))

-- an answer is REACH just by the verdict
never_reach : (b : Bool) (n : ℕ) (r : Reach) → ◌≡◌ {A = Result ℕ Fault} (Err (OutOfReach r)) (cond b (Ok n) (Err Short)) → ⊥
never_reach true n r e = let z : ◌≡◌ {A = ℕ} 0 1 = cc in omega arith
never_reach false n r e = let z : ◌≡◌ {A = ℕ} 0 1 = cc in omega arith

pub reached_reach : (k len : ℕ) (L : List (List ℕ)) (v : Verdict) (r : Reach) → Err (OutOfReach r) ≡ reached k len L v → v ≡ beyond r.level r.place
reached_reach k len L within r e = absurd (never_reach (leb (k * length L) len) (length L) r e)
reached_reach k len L (beyond level place) r e = cc

-- what an outer answer becomes
kept : (n k len : ℕ) (L : List (List ℕ)) (v : Verdict) (r : Result ℕ Fault) → r ≡ reached k len L v → ((x : Reach) → r ≡ Err (OutOfReach x) → ⊥) → r ≡ reached k len L (scaled_by n v)
kept n k len L within r e h = e
kept n k len L (beyond level place) r e h = absurd (h (record { level = level; place = place }) e)

reach_is : (x : Reach) (level place : ℕ) → x.level ≡ level → x.place ≡ place → x ≡ record { level = level; place = place }
reach_is x level place el ep = ap (λ z. record { level = z; place = x.place }) el ∙ ap (λ z. record { level = level; place = z }) ep

module _ {mo mi : Meaning} {a : ℕ} {s : Sheet} {t : ℕ} (ro : ListingRule mo) (ri : ListingRule mi) (h : InRange mo mi a s t) (len : ℕ) where
  m : Meaning
  m = concatenated mo mi a

  up : Sheet
  up = lifted mo.n mi a s

  -- a block out of reach
  pub says_below : (above : Sheet) (total : ℕ) → total ≡ mo.n → (r : Reach) → LiftsAll mi a s total above (Err r) → Said (concatenated mo mi a) s t len (Err (OutOfReach r)) (replicate len 0)
  says_below above total wide r e =
      says_reach (concatenated mo mi a) s t len h.sheet h.low h.high r.level r.place (subst (λ z. LiftsAll mi a s z above (Err r)) wide e _)

  module _ (above : Sheet) (total : ℕ) (wide : total ≡ mo.n) (all : LiftsAll mi a s total above (Ok tt)) where
    all_lifted : LiftsAll mi a s mo.n above (Ok tt)
    all_lifted = subst (λ z. LiftsAll mi a s z above (Ok tt)) wide all

    lifts : above ≡ lifted mo.n mi a s
    lifts = all_lifted.1

    ok : (after : Verdict) → reach_from mi a s 0 mo.n after ≡ after
    ok = all_lifted.0

    outer_past : listed mo above t len ≡ reached mo.k len (listing mo up t) (mo.reach up t)
    unfolding up
    outer_past = ap (λ z. listed mo z t len) lifts ∙ past_tests mo up t len (lifted_sheet mo mi a ro ri h.joined s h.sheet) h.low h.high

    -- an outer refusal's place, as a place of the whole
    pub above_place : (r : Reach) → Err (OutOfReach r) ≡ listed mo above t len → r.place * mi.n < places_limit
    unfolding up
    above_place r e =
        let v = reached_reach mo.k len (listing mo up t) (mo.reach up t) r (e ∙ outer_past) in
        let p : r.place < mo.n = subst (Inside mo.n) v (ro.reach_inside up t) in
        let x : r.place * mi.n < mo.n * mi.n = mul-lt-mul_of_pos_right p ri.sizes.n_low in
        omega (arith, h.joined.places_fit)

    same_listing : listing m s t ≡ listing mo above t
    unfolding listing m
    same_listing = ap (λ z. listing mo z t) (sym lifts)

    past : listed m s t len ≡ reached mo.k len (listing mo up t) (scaled_by mi.n (mo.reach up t))
    unfolding up m listing
    past = past_tests (concatenated mo mi a) s t len h.sheet h.low h.high ∙ ap (reached mo.k len (listing mo up t)) (ok (scaled_by mi.n (mo.reach up t)))

    -- all blocks in reach, and the outer code answers no REACH: what it says of the lifted sheet
    pub says_above : (r : Result ℕ Fault) (bytes : List ℕ) → r ≡ listed mo above t len → bytes ≡ shown mo above t len → ((x : Reach) → r ≡ Err (OutOfReach x) → ⊥)
        → Said (concatenated mo mi a) s t len r bytes
    unfolding m
    says_above r bytes er eb no-reach =
        let e = kept mi.n mo.k len (listing mo up t) (mo.reach up t) r (er ∙ outer_past) no-reach ∙ sym past in
        record { answer = e; buffer = eb ∙ ap (laid len (listing mo above t)) (sym er ∙ e) ∙ ap (λ z. laid len z (listed m s t len)) (sym same_listing) }

    -- and where it answers REACH, the same further on
    pub says_scaled : (x y : Reach) (bytes : List ℕ) → Err (OutOfReach x) ≡ listed mo above t len → bytes ≡ shown mo above t len → y.level ≡ x.level → y.place ≡ x.place * mi.n
        → Said (concatenated mo mi a) s t len (Err (OutOfReach y)) bytes
    unfolding m
    says_scaled x y bytes er eb el ep =
        let v = reached_reach mo.k len (listing mo up t) (mo.reach up t) x (er ∙ outer_past) in
        let e : Err (OutOfReach y) ≡ listed m s t len =
        ap (λ z. Err (OutOfReach z)) (reach_is y x.level (x.place * mi.n) el ep)
        ∙ sym (past ∙ ap (λ z. reached mo.k len (listing mo up t) (scaled_by mi.n z)) v) in
        record { answer = e; buffer = eb ∙ ap (laid len (listing mo above t)) (sym er) ∙ ap (laid len (listing m s t)) e }
