-- A concatenation of two lawful codes is lawful.
use Rattle.std.specs.Prelude.{◌≡◌, ℕ, ◌+◌, ◌*◌, ◌^◌, ◌<◌, ◌≤◌, true, ltb, leb, List, [], ◌∷◌, length, filter, ◌==◌, nat_le, nat_lt}
use Rattle.std.proofs.Math.Path.{refl, sym, ap}
use Rattle.std.proofs.Common.{◌∙◌, subst, mul-lt-mul_of_pos_right, arith}
use Rattle.std.proofs.Math.Nat.{mul-le-mul_right}
use Rattle.std.proofs.lemmas.Nat.{mul-le}
use Rattle.std.proofs.lemmas.Bool.{and_parts, and_from, eq-eqb, eqb-true, ltb-true}
use Rattle.sheet.specs.Letters.{Letters}
use Rattle.code.specs.Meaning.{Meaning, Verdict, within, beyond, is_sheet, below, listing, only, clean}
use Rattle.sheet.specs.Letters.{Sheet}
use Rattle.code.specs.Messages.{every, is_row, each, messages, digits}
use Rattle.code.specs.Rule.{ListingRule, Inside}
use Rattle.code.proofs.Rows.{every_kept, messages_rows}
use Rattle.concatenated.specs.Lifted.{block, numbers, if_within, lift, lifted, lifted_nested}
use Rattle.concatenated.specs.Lifting.{Blocks, Listable}
use Rattle.concatenated.specs.Concatenation.{concatenated, Joined, reach_from, scaled_by, inner_word}
use Rattle.concatenated.specs.Rows.{map_every, kept_every, digits_row, number_digits, numbers_fit, none_fit, numbers_one}
use Rattle.concatenated.specs.Blocks.{from, from_length, from_every, from_same, each_row, from_clean, reach_clean, reach_inside, reach_each, block_sheet}

scaled_within : (n : ℕ) (v : Verdict) → scaled_by n v ≡ within → v ≡ within
scaled_within n within e = refl
scaled_within n (beyond level place) e = absurd (let z : ◌≡◌ {A = ℕ} 0 1 = cc in omega arith)

scaled_inside : (no ni : ℕ) (v : Verdict) → 1 ≤ ni → Inside no v → Inside (no * ni) (scaled_by ni v)
scaled_inside outer-n ni within h i = tt
scaled_inside outer-n ni (beyond level place) h i = mul-lt-mul_of_pos_right i h

listed_fit : (p k q n : ℕ) (L : List (List ℕ)) (v : Verdict) → q ≡ p ^ k → every (is_row k p) L ≡ true → below q n (if_within v p L) ≡ true
listed_fit p k q n L within e h = ap (λ z. below z n (numbers p L)) e ∙ numbers_fit p k n L h
listed_fit p k q n L (beyond level place) e h = none_fit q n

module _ (mo mi : Meaning) (a : ℕ) (ro : ListingRule mo) (ri : ListingRule mi) (j : Joined mo mi a) where
  inner : ℕ → List ℕ
  inner v = inner_word mi v

  spelled : (v : ℕ) → is_row mi.k mi.p (digits mi.p mi.k v) ≡ true
  spelled v = digits_row mi.p mi.k v ri.sizes.p_low

  inner_row : (v : ℕ) → nat_lt v mo.q ≡ true → is_row mi.n mi.q (inner v) ≡ true
  unfolding inner
  inner_row v h = ri.word_row (digits mi.p mi.k v) (spelled v)

  inner_length : (v : ℕ) → nat_lt v mo.q ≡ true → length (inner v) ≡ mi.n
  inner_length v h = eqb-true (length (inner v)) mi.n (and_parts (length (inner v) == mi.n) _ (inner_row v h)).0

  -- a clean block gives its letter
  inner_reach : (v : ℕ) → nat_lt v mo.q ≡ true → mi.reach (clean (inner v)) a ≡ within
  unfolding inner
  inner_reach v h = ri.clean_reach (digits mi.p mi.k v) (spelled v) a j.a_low j.a_high

  inner_lift : (v : ℕ) → nat_lt v mo.q ≡ true → lift mi a (clean (inner v)) ≡ only v
  unfolding inner
  inner_lift v h =
      ap (λ r. if_within r mi.p (listing mi (clean (inner v)) a)) (inner_reach v h)
      ∙ ap (numbers mi.p) (ri.clean_alone (digits mi.p mi.k v) (spelled v) a j.a_low j.a_high)
      ∙ numbers_one mi.p (digits mi.p mi.k v) v (number_digits mi.p mi.k v ri.sizes.p_low (subst (λ z. v < z) j.letters_meet (ltb-true v mo.q h)))

  module _ (x : List ℕ) (ex : is_row mo.k mo.p x ≡ true) where
    outer_length : length (mo.word x) ≡ mo.n
    outer_length = eqb-true _ mo.n (and_parts (length (mo.word x) == mo.n) _ (ro.word_row x ex)).0

    outer_below : every (λ l. ltb l mo.q) (mo.word x) ≡ true
    outer_below = (and_parts (length (mo.word x) == mo.n) _ (ro.word_row x ex)).1

    start : length {A = Letters} [] ≡ 0 * mi.n
    start = omega arith

    lifted_clean : lifted mo.n mi a (clean (each inner (mo.word x))) ≡ clean (mo.word x)
    unfolding lifted
    lifted_clean =
        ap (λ c. from (λ b. lift mi a (block mi.n (clean (each inner (mo.word x))) b)) 0 c) (sym outer_length)
        ∙ from_clean inner (λ l. ltb l mo.q) mi.n inner_length (lift mi a) [] 0 (mo.word x) start outer_below
        ∙ map_every (λ l. ltb l mo.q) (λ v. lift mi a (clean (inner v))) only inner_lift (mo.word x) outer_below

    concatenated_clean_reach : (t : ℕ) → mo.least ≤ t → t ≤ mo.top → (concatenated mo mi a).reach (clean ((concatenated mo mi a).word x)) t ≡ within
    unfolding inner
    concatenated_clean_reach t lo hi =
        let S = clean (each inner (mo.word x)) in
        ap (λ c. reach_from mi a S 0 c (scaled_by mi.n (mo.reach (lifted mo.n mi a S) t))) (sym outer_length)
        ∙ reach_clean inner (λ l. ltb l mo.q) mi.n inner_length mi a _ refl inner_reach [] 0 (mo.word x) start outer_below
        ∙ ap (λ z. scaled_by mi.n (mo.reach z t)) lifted_clean
        ∙ ap (scaled_by mi.n) (ro.clean_reach x ex t lo hi)

    concatenated_clean_alone : (t : ℕ) → mo.least ≤ t → t ≤ mo.top → listing (concatenated mo mi a) (clean ((concatenated mo mi a).word x)) t ≡ x ∷ []
    unfolding inner listing
    concatenated_clean_alone t lo hi = ap (λ z. filter (λ y. leb t (mo.score z y)) (messages mo.p mo.k)) lifted_clean ∙ ro.clean_alone x ex t lo hi

  -- sheets
  module _ (s : Sheet) (hs : is_sheet (concatenated mo mi a) s ≡ true) where
    pub blocks_of : Blocks mi mo.n s
    unfolding is_sheet
    blocks_of =
        let p = and_parts (length s == mo.n * mi.n) (every (below mi.q 256) s) hs in
        record { fits = j.places_fit; whole = eqb-true _ _ p.0; letters = p.1 }

    pub lifted_sheet : is_sheet mo (lifted mo.n mi a s) ≡ true
    unfolding is_sheet lifted listing
    lifted_sheet =
        and_from _ _ (eq-eqb _ mo.n (from_length _ 0 mo.n))
        (from_every (below mo.q 256) _ 0 mo.n (λ i l u. listed_fit mi.p mi.k mo.q 256 _ (mi.reach (block mi.n s i) a) j.letters_meet (every_kept (is_row mi.k mi.p) _ (messages mi.p mi.k) (messages_rows mi.p mi.k))))

    same_lift : ((i : ℕ) → 0 ≤ i → i < 0 + mo.n → mi.reach (block mi.n s i) a ≡ within) → lifted mo.n mi a s ≡ lifted_nested mo.n mi a s
    unfolding lifted lifted_nested listing
    same_lift r =
        from_same _ _ 0 mo.n (λ i l u.
        let B = block mi.n s i in
        ap (λ z. if_within z mi.p (listing mi B a)) (r i l u)
        ∙ ap (numbers mi.p) (kept_every (is_row mi.k mi.p) (λ y. leb a (mi.score B y)) (λ y. leb a (mi.nested B y))
        (λ y hy. sym (ri.nested_same B a (block_sheet mi blocks_of i (omega arith)) (let q = j.a_low in let w = ri.sizes.least_low in omega arith) j.a_high (r i l u) y hy))
        (messages mi.p mi.k) (messages_rows mi.p mi.k)))

    concatenated_nested : (t : ℕ) → 1 ≤ t → t ≤ mo.top → (concatenated mo mi a).reach s t ≡ within → (x : List ℕ) → is_row mo.k mo.p x ≡ true
        → nat_le t ((concatenated mo mi a).nested s x) ≡ nat_le t ((concatenated mo mi a).score s x)
    concatenated_nested t lo hi e x ex =
        let r = reach_each mi a s (scaled_by mi.n (mo.reach (lifted mo.n mi a s) t)) 0 mo.n e in
        ap (λ z. leb t (mo.nested z x)) (sym (same_lift r.1))
        ∙ ro.nested_same (lifted mo.n mi a s) t lifted_sheet lo hi (scaled_within mi.n _ r.0) x ex

  pub listable : Listable mi a
  listable = record {
    few = (let h = ro.sizes.q_high in let e = j.letters_meet in omega arith);
    low = (let h = ri.sizes.least_low in let e = j.a_low in omega arith);
    high = j.a_high;
  }

  pub concatenated_lawful : ListingRule (concatenated mo mi a)
  unfolding inner
  concatenated_lawful =
      let so = ro.sizes in
      let si = ri.sizes in
      record {
        sizes = record {
          q_low = si.q_low;
          q_high = si.q_high;
          n_low = mul-le 1 1 mo.n mi.n so.n_low si.n_low;
          n_high = j.places_fit;
          p_low = so.p_low;
          p_high = so.p_high;
          k_low = so.k_low;
          k_high = so.k_high;
          least_low = so.least_low;
          least_top = so.least_top;
        };
        word_row = λ x ex. each_row inner mo.q mi.n mi.q inner_row mo.n (mo.word x) (ro.word_row x ex);
        reach_inside = λ s t. reach_inside mi a s (mo.n * mi.n) _ (λ B. ri.reach_inside B a) (scaled_inside mo.n mi.n _ si.n_low (ro.reach_inside (lifted mo.n mi a s) t)) 0 mo.n (let z : (0 + mo.n) * mi.n ≤ mo.n * mi.n = mul-le-mul_right mi.n (omega arith) in z);
        nested_same = λ s t hs lo hi e x ex. concatenated_nested s hs t lo hi e x ex;
        clean_reach = λ x ex t lo hi. concatenated_clean_reach x ex t lo hi;
        clean_alone = λ x ex t lo hi. concatenated_clean_alone x ex t lo hi;
      }
