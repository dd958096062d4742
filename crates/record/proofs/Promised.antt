-- The promise holds of the plain book.
use Rattle.std.proofs.Common.{◌≡◌, ℕ, ◌+◌, ◌-◌, ◌<◌, ◌≤◌, Bool, true, false, cond, ◌&&◌, eqb, ltb, leb, List, [], ◌∷◌, ◌++◌, length, take, drop, set, replicate, Ok, Err, sym, refl, ap, ◌∙◌, subst, arith}
use Rattle.std.proofs.lemmas.List.{get_or-set_same}
use Rattle.std.proofs.lemmas.Bool.{and_parts, leb-true, ltb-true, true≢false}
use Rattle.fault.specs.declared.Fault.{Fault}
use Rattle.fault.specs.declared.Fault.TheVariants.{Place, Letter, Empty, Agreement, Sheet as BadSheet, Short}
use Rattle.sheet.specs.Letters.{Sheet, none, join, size, weight}
use Rattle.algebra.specs.Field.{Meaning as Field}
use Rattle.counting.specs.Counting.{limits, in_reach}
use Rattle.code.specs.Messages.{is_row}
use Rattle.code.specs.Meaning.{Meaning, Verdict, within, beyond, is_sheet, listing}
use Rattle.code.specs.Rule.{ListingRule}
use Rattle.code.specs.Answers.{listed, shown, laid, reached}
use Rattle.code.proofs.Once.{listing_rises, listing_once}
use Rattle.concatenated.specs.Concatenation.{concatenated}
use Rattle.concatenated.specs.Reaching.{Iff, Beyond, PartOut, SaysReach}
use Rattle.concatenated.proofs.Parts.{reach_by_parts}
use Rattle.concatenated.proofs.Listed.{past_tests, reached_reach}
use Rattle.reed_solomon.specs.ReedSolomon.{rs_at}
use Rattle.record.specs.declared.calls.Call.{Call}
use Rattle.record.specs.declared.calls.Call.TheVariants.{Hear, Strike, List as Lists}
use Rattle.record.specs.Book.{Answer, fresh, at, hear_says, heard, strike_says, takes, says, next, left_in, run, answers, written, served, ByTheBook}
use Rattle.record.specs.History.{call_at, answer_at, IsCall, StandsAfter, left_after, room_of, buffer_of}
use Rattle.record.specs.Promise.{OneStands, ListsAt, HoldsExactly, IsReedSolomon, Promise}
use Rattle.record.proofs.Passing.{not_ok, passes}
use Rattle.reed_solomon.proofs.Few.{few_listed}
use Rattle.record.proofs.History.{remembers_all}
use Rattle.record.proofs.Moments.{book_at, book_more, only_one, answer_now, found, found_length, buffer_now, shown_now, stands_now}
use Rattle.record.proofs.Sheets.{legal_fresh, legal_run, never_sheet}

value_of : Answer → ℕ
value_of (Ok c) = c
value_of (Err f) = 0

same_count : (a b : ℕ) → ◌≡◌ {A = Answer} (Ok a) (Ok b) → a ≡ b
unfolding value_of
same_count a b e = ap value_of e

-- the counts of hear and strike
hear_counts : (m : Meaning) (s : Sheet) (p l count : ℕ) → length s ≡ m.n → Ok count ≡ hear_says m s p l → count ≡ size (at (heard m s p l) p)
hear_counts m s p l count long e =
    let a = passes (ltb p m.n) _ Place count e in
    let b = passes (ltb l m.q) (Ok (size (join l (at s p)))) Letter count a.1 in
    let lp = ltb-true p m.n a.0 in
    let is : heard m s p l ≡ set s p (join l (at s p)) = ap (λ z. cond z (cond (ltb l m.q) (set s p (join l (at s p))) s) s) a.0 ∙ ap (λ z. cond z (set s p (join l (at s p))) s) b.0 in
    same_count count _ b.1 ∙ ap size (sym (get_or-set_same s p (join l (at s p)) none (omega arith))) ∙ ap (λ z. size (at z p)) (sym is)

stood_counts : (b : Bool) (n count : ℕ) → Ok count ≡ cond b (Err Empty) (Ok n) → count ≡ n
stood_counts true n count e = absurd (not_ok Empty count e)
stood_counts false n count e = same_count count n e

strike_counts : (m : Meaning) (s : Sheet) (p count : ℕ) → Ok count ≡ strike_says m s p → count ≡ size (at s p)
strike_counts m s p count e = stood_counts (eqb (size (at s p)) 0) (size (at s p)) count (passes (ltb p m.n) _ Place count e).1

-- a refused call changes nothing
if_refused : (b : Bool) (r : Answer) (g f : Fault) (u s : Sheet) → cond b r (Err g) ≡ Err f → (r ≡ Err f → u ≡ s) → cond b u s ≡ s
if_refused true r g f u s e h = h e
if_refused false r g f u s e h = refl

unless_refused : (b : Bool) (n : ℕ) (g f : Fault) (u s : Sheet) → cond b (Err g) (Ok n) ≡ Err f → cond b s u ≡ s
unless_refused true n g f u s e = refl
unless_refused false n g f u s e = absurd (not_ok f n e)

refused_keeps : (m : Meaning) (s : Sheet) (c : Call) (len : ℕ) (f : Fault) → says m s c len ≡ Err f → next m s c ≡ s
refused_keeps m s (Hear p l) len f e = if_refused (ltb p m.n) _ Place f _ s e (λ d. if_refused (ltb l m.q) _ Letter f _ s d (λ k. absurd (not_ok f _ k)))
refused_keeps m s (Strike p) len f e = if_refused (ltb p m.n) _ Place f _ s e (λ d. unless_refused (eqb (size (at s p)) 0) _ Empty f _ s d)
refused_keeps m s (Lists t room) len f e = refl

no_bytes : (bs : List ℕ) → length bs ≡ 0 → bs ≡ replicate (length bs) 0
no_bytes [] e = refl
no_bytes (b ∷ bs) e = absurd (omega arith)

refused_zero : (m : Meaning) (s : Sheet) (c : Call) (bs : List ℕ) (left : ℕ) (f : Fault) → length bs ≡ takes c left → says m s c (length bs) ≡ Err f → left_in m s c bs ≡ replicate (length bs) 0
refused_zero m s (Hear p l) bs left f long e = no_bytes bs long
refused_zero m s (Strike p) bs left f long e = no_bytes bs long
refused_zero m s (Lists t room) bs left f long e = ap (laid (length bs) (listing m s t)) e

-- an answered list
record Fine (m : Meaning) (s : Sheet) (t count : ℕ) : Type 0 where
  pub sheet : is_sheet m s ≡ true
  pub low : 1 ≤ t
  pub high : t ≤ m.top
  pub near : m.reach s t ≡ within
  pub counted : length (listing m s t) ≡ count

fine_reached : (k len : ℕ) (L : List (List ℕ)) (v : Verdict) (count : ℕ) → Ok count ≡ reached k len L v → (v ≡ within) × (length L ≡ count)
fine_reached k len L within count e = (refl, sym (same_count count _ (passes (leb _ len) (Ok (length L)) Short count e).1))
fine_reached k len L (beyond level place) count e = absurd (not_ok _ count e)

fine : (m : Meaning) (s : Sheet) (t len count : ℕ) → Ok count ≡ listed m s t len → Fine m s t count
fine m s t len count e =
    let a = passes (is_sheet m s) _ BadSheet count e in
    let b = passes (leb 1 t && leb t m.top) _ Agreement count a.1 in
    let d = and_parts (leb 1 t) (leb t m.top) b.0 in
    let r = fine_reached m.k len (listing m s t) (m.reach s t) count b.1 in
    record { sheet = a.0; low = leb-true 1 t d.0; high = leb-true t m.top d.1; near = r.0; counted = r.1 }

under : (a b c : Bool) → (a ≡ true → b ≡ c) → (a && b) ≡ (a && c)
under true b c h = h refl
under false b c h = refl

exactly : (m : Meaning) → ListingRule m → (s : Sheet) (t len count : ℕ) (bytes : List ℕ) → Ok count ≡ listed m s t len → bytes ≡ shown m s t len → HoldsExactly m s t count len bytes
exactly m rule s t len count bytes e eb =
    let f = fine m s t len count e in
    record {
      list = listing m s t;
      counted = f.counted;
      laid = eb ∙ ap (laid len (listing m s t)) (sym e);
      rises = listing_rises m s t;
      holds = λ x. listing_once m s t x ∙ ap (λ z. cond z 1 0) (under (is_row m.k m.p x) (leb t (m.score s x)) (leb t (m.nested s x)) (λ r. sym (rule.nested_same s t f.sheet f.low f.high f.near x r)));
    }

-- REACH by the counting rule
within_beyond : (level place : ℕ) → within ≡ beyond level place → ⊥
within_beyond level place e = subst Beyond (sym e) tt

counted_out : (k len : ℕ) (L : List (List ℕ)) (b : Bool) → Iff (SaysReach (reached k len L (cond b within (beyond 0 0)))) (b ≡ false)
counted_out k len L true = (λ h. absurd (within_beyond _ _ (reached_reach k len L within h.0 (sym h.1))), λ e. absurd (true≢false e))
counted_out k len L false = (λ h. refl, λ e. (record { level = 0; place = 0 }, refl))

counts_in : (b : Bool) → cond b within (beyond 0 0) ≡ within → b ≡ true
counts_in true e = refl
counts_in false e = absurd (subst Beyond e tt)

module _ (m : Meaning) (rule : ListingRule m) (calls : List Call) (bs : List ℕ) (more : List Answer) where
  abbrev total : ℕ
  total = length bs

  abbrev replies : List Answer
  replies = answers m (fresh m) calls total ++ more

  abbrev bytes : List ℕ
  bytes = written m (fresh m) calls bs

  stands_at : (i : ℕ) → StandsAfter m calls replies i (book_at m calls i)
  stands_at i = stands_now m calls total more i

  is_book : (i : ℕ) (u : Sheet) → StandsAfter m calls replies i u → book_at m calls i ≡ u
  is_book i u h = only_one m calls replies i (book_at m calls i) u (stands_at i) h

  whole_at : (i : ℕ) → is_sheet m (book_at m calls i) ≡ true
  whole_at i = legal_run m (fresh m) (take i calls) (legal_fresh m)

  one_stands : (i : ℕ) → OneStands m calls replies i
  one_stands i = record { sheet = book_at m calls i; stands = stands_at i; whole = whole_at i; alone = λ u h. sym (is_book i u h) }

  answered_at : (i : ℕ) → i < length calls → (u : Sheet) → StandsAfter m calls replies i u → answer_at replies i ≡ says m u (call_at calls i) (room_of calls total i)
  answered_at i lt u h = answer_now m calls i lt total more ∙ ap (λ z. says m z (call_at calls i) (room_of calls total i)) (is_book i u h)

  hears_at : (i p l count : ℕ) → IsCall calls i (Hear p l) → answer_at replies i ≡ Ok count → (u : Sheet) → StandsAfter m calls replies (i + 1) u → count ≡ size (at u p)
  hears_at i p l count c ok u h =
      let lt = c.0 in
      let e = c.1 in
      let v = book_at m calls i in
      let after : heard m v p l ≡ u = ap (next m v) (sym e) ∙ sym (book_more m calls i lt) ∙ is_book (i + 1) u h in
      let said : Ok count ≡ hear_says m v p l = sym ok ∙ answer_now m calls i lt total more ∙ ap (λ c. says m v c (room_of calls total i)) e in
      hear_counts m v p l count (stands_at i).places said ∙ ap (λ z. size (at z p)) after

  strikes_at : (i p count : ℕ) → IsCall calls i (Strike p) → answer_at replies i ≡ Ok count → (u : Sheet) → StandsAfter m calls replies i u → count ≡ size (at u p)
  strikes_at i p count c ok u h = strike_counts m u p count (sym ok ∙ answered_at i c.0 u h ∙ ap (λ z. says m u z (room_of calls total i)) c.1)

  refused_at : (i : ℕ) (f : Fault) → i < length calls → answer_at replies i ≡ Err f → (u v : Sheet) → StandsAfter m calls replies i u → StandsAfter m calls replies (i + 1) v → v ≡ u
  refused_at i f lt e u v hu hv =
      let kept = refused_keeps m (book_at m calls i) (call_at calls i) (room_of calls total i) f (sym (answer_now m calls i lt total more) ∙ e) in
      sym (is_book (i + 1) v hv) ∙ book_more m calls i lt ∙ kept ∙ is_book i u hu

  zeros_at : (i : ℕ) (f : Fault) → i < length calls → answer_at replies i ≡ Err f → buffer_of calls total i bytes ≡ replicate (room_of calls total i) 0
  zeros_at i f lt e =
      let long = found_length m calls i lt bs in
      let said = ap (says m (book_at m calls i) (call_at calls i)) long ∙ sym (answer_now m calls i lt total more) ∙ e in
      buffer_now m calls i lt bs ∙ refused_zero m (book_at m calls i) (call_at calls i) (found m calls i lt bs) (left_after (take i calls) total) f long said ∙ ap (λ z. replicate z 0) long

  module _ (i t room : ℕ) (u : Sheet) (w : ListsAt m calls replies i t room u) where
    abbrev len : ℕ
    len = room_of calls total i

    listed_at : answer_at replies i ≡ listed m u t len
    listed_at = answered_at i w.lists.0 u w.stands ∙ ap (λ c. says m u c len) w.lists.1

    shows_at : buffer_of calls total i bytes ≡ shown m u t len
    shows_at = shown_now m calls i w.lists.0 bs t room w.lists.1 ∙ ap (λ z. shown m z t len) (is_book i u w.stands)

    whole : is_sheet m u ≡ true
    whole = ap (is_sheet m) (sym (is_book i u w.stands)) ∙ whole_at i

    exact_at : (count : ℕ) → answer_at replies i ≡ Ok count → HoldsExactly m u t count len (buffer_of calls total i bytes)
    exact_at count ok = exactly m rule u t len count (buffer_of calls total i bytes) (sym ok ∙ listed_at) shows_at

    -- the same, where it is known which code m is
    module _ (c : Meaning) (e : m ≡ c) where
      listed_by : answer_at replies i ≡ listed c u t len
      listed_by = listed_at ∙ ap (λ z. listed z u t len) e

      whole_by : is_sheet c u ≡ true
      whole_by = ap (λ z. is_sheet z u) (sym e) ∙ whole

      high_by : t ≤ m.top → t ≤ c.top
      high_by hi = subst (λ z. t ≤ z.top) e hi

    concatenation_at : (mo mi : Meaning) (a : ℕ) → m ≡ concatenated mo mi a → 1 ≤ t → t ≤ m.top → Iff (SaysReach (answer_at replies i)) (PartOut mo mi a u t)
    concatenation_at mo mi a e lo hi =
        let c = concatenated mo mi a in
        subst (λ r. Iff (SaysReach r) (PartOut mo mi a u t)) (sym (listed_by c e)) (reach_by_parts mo mi a u t len (whole_by c e) lo (high_by c e hi))

    module _ (F : Field) (n k : ℕ) (points : List ℕ) (is : IsReedSolomon m F n k points) where
      abbrev rs : Meaning
      rs = rs_at limits F n points k

      reed_solomon_at : 1 ≤ t → t ≤ m.top → Iff (SaysReach (answer_at replies i)) (in_reach limits (k - 1) t (weight u) ≡ false)
      reed_solomon_at lo hi =
          subst (λ r. Iff (SaysReach r) (in_reach limits (k - 1) t (weight u) ≡ false))
          (sym (listed_by rs is.is ∙ past_tests rs u t len (whole_by rs is.is) lo (high_by rs is.is hi)))
          (counted_out k len (listing rs u t) (in_reach limits (k - 1) t (weight u)))

      few_at : (count : ℕ) → answer_at replies i ≡ Ok count → count ≤ 15
      few_at count ok =
          let f : Fine rs u t count = subst (λ z. Fine z u t count) is.is (fine m u t len count (sym ok ∙ listed_at)) in
          let b = few_listed F is.laws n k is.bounds points is.points_apart u t f.sheet f.low f.high (counts_in (in_reach limits (k - 1) t (weight u)) f.near) in
          subst (λ z. z ≤ 15) f.counted b

  pub promised : Promise m calls replies total bytes (run m (fresh m) calls)
  promised = record {
    letters = remembers_all m calls total more;
    stood = λ i le. one_stands i;
    answered = answered_at;
    hears = hears_at;
    strikes = strikes_at;
    refused = refused_at;
    zeros = zeros_at;
    sheets = λ i lt e. never_sheet m (book_at m calls i) (whole_at i) (call_at calls i) (room_of calls total i) (sym (answer_now m calls i lt total more) ∙ e);
    shows = shows_at;
    exact = λ i t room count u w. exact_at i t room u w count;
    concatenation = λ mo mi a e i t room u w. concatenation_at i t room u w mo mi a e;
    reed_solomon = λ F n k points is i t room u w. reed_solomon_at i t room u w F n k points is;
    few = λ F n k points is i t room count c ok. few_at i t room (book_at m calls i) (record { lists = c; stands = stands_at i }) F n k points is count ok;
  }

-- and so of whatever went by the book
pub promised_by : (m : Meaning) → ListingRule m → (calls : List Call) (slots : List Answer) (bs : List ℕ) (s : Sheet) (slots' : List Answer) (bs' : List ℕ)
    → ByTheBook m (fresh m) calls slots bs s slots' bs' → Promise m (served calls slots) slots' (length bs) bs' s
promised_by m rule calls slots bs s slots' bs' b =
    let cs = served calls slots in
    subst (λ z. Promise m cs slots' (length bs) bs' z) (sym b.letters)
    (subst (λ z. Promise m cs slots' (length bs) z (run m (fresh m) cs)) (sym b.buffers)
    (subst (λ z. Promise m cs z (length bs) (written m (fresh m) cs bs) (run m (fresh m) cs)) (sym b.replies) (promised m rule cs bs (drop (length calls) slots))))
