-- One block listed, and what comes of it.
use Rattle.std.proofs.Common.{◌≡◌, ℕ, ◌+◌, ◌-◌, ◌*◌, ◌≤◌, Bool, true, false, cond, ◌&&◌, ltb, leb, List, ◌++◌, length, replicate, Ok, Err, Result, sym, refl, ap, ◌∙◌, subst, arith}
use Rattle.std.proofs.lemmas.Nat.{mul-le}
use Rattle.std.proofs.lemmas.List.{length-append}
use Rattle.std.proofs.lemmas.Bool.{cond-true, and_from, le-leb}
use Rattle.fault.specs.declared.Fault.{Fault}
use Rattle.fault.specs.declared.Fault.TheVariants.{Reach as OutOfReach, Short}
use Rattle.fault.specs.declared.Reach.{Reach}
use Rattle.code.specs.Meaning.{Meaning, Verdict, within, beyond, is_sheet, listing}
use Rattle.sheet.specs.Letters.{Sheet}
use Rattle.code.specs.Messages.{every, is_row, rows, each, messages, number}
use Rattle.code.specs.Rule.{ListingRule}
use Rattle.code.specs.Answers.{listed, shown, reached, laid}
use Rattle.code.proofs.Numbering.{messages_count}
use Rattle.code.proofs.Rows.{listing_rows, kept_length, each_rows_length}
use Rattle.concatenated.specs.Lifted.{numbers}
use Rattle.concatenated.specs.Lifting.{Listable}
use Rattle.concatenated.proofs.Gathered.{numbers_fit}
use Rattle.code.proofs.Laid.{rows_laid}
use Rattle.code.proofs.Alone.{row_length}

cond_ok : (b : Bool) (c n : ℕ) → ◌≡◌ {A = Result ℕ Fault} (Ok c) (cond b (Ok n) (Err Short)) → c ≡ n
cond_ok true c n e = cc
cond_ok false c n e = absurd (let z : ◌≡◌ {A = ℕ} 0 1 = cc in omega arith)

reached_ok : (k len : ℕ) (L : List (List ℕ)) (v : Verdict) (c : ℕ) → Ok c ≡ reached k len L v → (v ≡ within) × (c ≡ length L)
reached_ok k len L within c e = (refl, cond_ok (leb (k * length L) len) c (length L) e)
reached_ok k len L (beyond level place) c e = absurd (let z : ◌≡◌ {A = ℕ} 0 1 = cc in omega arith)

-- with room for all, only reach refuses
reached_err : (k len : ℕ) (L : List (List ℕ)) (v : Verdict) (f : Fault) → k * length L ≤ len → Err f ≡ reached k len L v → (r : Reach) × ((f ≡ OutOfReach r) × (v ≡ beyond r.level r.place))
reached_err k len L within f h e = absurd (let q = e ∙ cond-true (leb (k * length L) len) (Ok (length L)) (Err Short) (le-leb _ len h) in let z : ◌≡◌ {A = ℕ} 0 1 = cc in omega arith)
reached_err k len L (beyond level place) f h e = (record { level = level; place = place }, ((cc), refl))

module _ (mi : Meaning) (a : ℕ) (B : Sheet) (ri : ListingRule mi) (can : Listable mi a) (hs : is_sheet mi B ≡ true) where
  L : List (List ℕ)
  L = listing mi B a

  listed_rows : every (is_row mi.k mi.p) L ≡ true
  unfolding L
  listed_rows = listing_rows mi B a

  short_list : length L ≤ 256
  unfolding L listing
  short_list = let c = kept_length (λ x. leb a (mi.score B x)) (messages mi.p mi.k) in let n = messages_count mi.p mi.k in omega (arith, can.few)

  room : mi.k * length L ≤ 4096
  room = mul-le mi.k (length L) 16 256 ri.sizes.k_high short_list

  past : listed mi B a 4096 ≡ reached mi.k 4096 L (mi.reach B a)
  unfolding L
  past = cond-true (is_sheet mi B) _ _ hs ∙ cond-true (leb 1 a && leb a mi.top) _ _ (and_from _ _ (le-leb 1 a can.low) (le-leb a mi.top can.high))

  pub lift_err : (f : Fault) → Err f ≡ listed mi B a 4096 → (r : Reach) × ((f ≡ OutOfReach r) × (mi.reach B a ≡ beyond r.level r.place))
  lift_err f e = reached_err mi.k 4096 L (mi.reach B a) f room (e ∙ past)

  module _ (count : ℕ) (bytes : List ℕ) (e : Ok count ≡ listed mi B a 4096) (eb : bytes ≡ shown mi B a 4096) where
    pub lift_within : mi.reach B a ≡ within
    lift_within = (reached_ok mi.k 4096 L (mi.reach B a) count (e ∙ past)).0

    count_is : count ≡ length L
    count_is = (reached_ok mi.k 4096 L (mi.reach B a) count (e ∙ past)).1

    bytes_are : bytes ≡ each (λ x. x) L ++ replicate (4096 - length (each (λ x. x) L)) 0
    unfolding L
    bytes_are = eb ∙ ap (laid 4096 (listing mi B a)) (sym e)

    pub lift_room : count * mi.k ≤ length bytes
    lift_room =
        let l : length bytes ≡ length (each (λ x. x) L) + length (replicate {A = ℕ} (4096 - length (each (λ x. x) L)) 0) = ap length bytes_are ∙ length-append (each (λ x. x) L) _ in
        let r = each_rows_length mi.k mi.p L listed_rows in
        let c : count * mi.k ≡ length L * mi.k = ap (λ z. z * mi.k) count_is in
        omega arith

    -- what lies in the buffer is the list
    rows_are : rows mi.k count bytes ≡ L
    rows_are =
        ap (rows mi.k count) bytes_are ∙ ap (λ z. rows mi.k z (each (λ x. x) L ++ replicate (4096 - length (each (λ x. x) L)) 0)) count_is
        ∙ rows_laid mi.k L _ (is_row mi.k mi.p) (row_length mi.k mi.p) listed_rows

    pub lift_fits : every (λ m. ltb (number mi.p m) 256) (rows mi.k count bytes) ≡ true
    lift_fits = subst (λ l. every (λ m. ltb (number mi.p m) 256) l ≡ true) (sym rows_are) (numbers_fit mi.p mi.k L can.few listed_rows)

    pub lift_numbers : numbers mi.p (rows mi.k count bytes) ≡ numbers mi.p (listing mi B a)
    unfolding L
    lift_numbers = ap (numbers mi.p) rows_are
