-- The plain book holds just the letters that the history of the calls gives.
use Rattle.std.proofs.Common.{◌≡◌, ℕ, zero, suc, ◌-◌, ◌<◌, Bool, true, false, cond, ◌||◌, eqb, ltb, ◌⊎◌, List, [], ◌∷◌, ◌++◌, length, set, replicate, is_ok, Ok, Err, sym, refl, ap, ◌∙◌, inl, inr, ⊎_elim, arith}
use Rattle.std.proofs.lemmas.List.{get_or-set_same, get_or-set_other, length-set, get_or-replicate, get_or_past, length-replicate, get_or_append_left}
use Rattle.std.proofs.lemmas.Bool.{cases_eq, cases_lt, ltb-true, eqb-true, eq-eqb, or_cases, or_left, or_right, both_ways, true≢false}
use Rattle.sheet.specs.Letters.{Sheet, none, join, size}
use Rattle.fault.specs.declared.Fault.{Fault}
use Rattle.fault.specs.declared.Fault.TheVariants.{Place, Letter, Empty}
use Rattle.code.specs.Meaning.{Meaning}
use Rattle.concatenated.specs.Reaching.{Iff}
use Rattle.record.specs.declared.calls.Call.{Call}
use Rattle.record.specs.declared.calls.Call.TheVariants.{Hear, Strike, List as Lists}
use Rattle.record.specs.Book.{Answer, fresh, at, hear_says, heard, strike_says, struck, says, next, takes, run, answers}
use Rattle.record.specs.History.{call_at, answer_at, Accepted, HeardSince, Remembers}

hear_strike : {p l q : ℕ} → Hear p l ≡ Strike q → ⊥
hear_strike e = let z : ◌≡◌ {A = ℕ} 0 1 = cc in omega arith

strike_hear : {p l q : ℕ} → Strike q ≡ Hear p l → ⊥
strike_hear e = let z : ◌≡◌ {A = ℕ} 0 1 = cc in omega arith

list_hear : {p l t room : ℕ} → Lists t room ≡ Hear p l → ⊥
list_hear e = let z : ◌≡◌ {A = ℕ} 0 1 = cc in omega arith

list_strike : {q t room : ℕ} → Lists t room ≡ Strike q → ⊥
list_strike e = let z : ◌≡◌ {A = ℕ} 0 1 = cc in omega arith

hear_place : {p l p' l' : ℕ} → Hear p' l' ≡ Hear p l → p' ≡ p
hear_place e = cc

hear_letter : {p l p' l' : ℕ} → Hear p' l' ≡ Hear p l → l' ≡ l
hear_letter e = cc

strike_place : {p p' : ℕ} → Strike p' ≡ Strike p → p' ≡ p
strike_place e = cc

no_ok : false ≡ true → ⊥
no_ok e = true≢false (sym e)

-- what one call does to one letter of one place
Kept : Call → Answer → ℕ → Type 0
Kept c a p = c ≡ Strike p → is_ok a ≡ true → ⊥

Step : Sheet → Sheet → Call → Answer → ℕ → ℕ → Type 0
Step s s' c a p l = Iff (at s' p l ≡ true) (((c ≡ Hear p l) × (is_ok a ≡ true)) ⊎ ((at s p l ≡ true) × Kept c a p))

step_none : (s : Sheet) (c : Call) (a : Answer) (p l : ℕ) → (c ≡ Hear p l → is_ok a ≡ true → ⊥) → Kept c a p → Step s s c a p l
unfolding Step
step_none s c a p l nh ns = (λ h. inr (h, ns), ⊎_elim (λ e. absurd (nh e.0 e.1)) (λ e. e.0))

module _ (m : Meaning) (s : Sheet) (long : length s ≡ m.n) where
  step_hear_set : (p' l' c : ℕ) → p' < m.n → (p l : ℕ) → Step s (set s p' (join l' (at s p'))) (Hear p' l') (Ok c) p l
  unfolding Step Kept
  step_hear_set p' l' c lp p l =
      let there : (p ≡ p' → ⊥) → at (set s p' (join l' (at s p'))) p l ≡ at s p l = λ ne. ap (λ f. f l) (get_or-set_other s p' p _ none ne) in
      let here : p ≡ p' → at (set s p' (join l' (at s p'))) p l ≡ (eqb l l' || at s p' l) = λ e. ap (λ x. at (set s p' (join l' (at s p'))) x l) e ∙ ap (λ f. f l) (get_or-set_same s p' _ none (omega arith)) in (
        λ h.
            ⊎_elim
            (λ e.
            ⊎_elim
            (λ same. inl (ap (λ x. Hear x l') (sym e) ∙ ap (Hear p) (sym (eqb-true l l' same)), refl))
            (λ old. inr (ap (λ x. at s x l) e ∙ old, λ x y. hear_strike x))
            (or_cases (eqb l l') (at s p' l) (sym (here e) ∙ h)))
            (λ ne. inr (sym (there ne) ∙ h, λ x y. hear_strike x))
            (cases_eq p p'),
        ⊎_elim
            (λ e. here (sym (hear_place e.0)) ∙ or_left (eqb l l') _ (eq-eqb l l' (sym (hear_letter e.0))))
            (λ e. ⊎_elim (λ q. here q ∙ or_right (eqb l l') (at s p' l) (ap (λ x. at s x l) (sym q) ∙ e.0)) (λ ne. there ne ∙ e.0) (cases_eq p p')),
      )

  step_strike_set : (p' c : ℕ) → p' < m.n → (p l : ℕ) → Step s (set s p' none) (Strike p') (Ok c) p l
  unfolding Step Kept
  step_strike_set p' c lp p l =
      let there : (p ≡ p' → ⊥) → at (set s p' none) p l ≡ at s p l = λ ne. ap (λ f. f l) (get_or-set_other s p' p none none ne) in
      let here : p ≡ p' → at (set s p' none) p l ≡ false = λ e. ap (λ x. at (set s p' none) x l) e ∙ ap (λ f. f l) (get_or-set_same s p' none none (omega arith)) in (
        λ h. ⊎_elim (λ e. absurd (both_ways _ (here e) h)) (λ ne. inr (sym (there ne) ∙ h, λ x y. ne (sym (strike_place x)))) (cases_eq p p'),
        ⊎_elim
            (λ e. absurd (strike_hear e.0))
            (λ e. ⊎_elim (λ q. absurd (e.1 (ap Strike (sym q)) refl)) (λ ne. there ne ∙ e.0) (cases_eq p p')),
      )

  step_if : (b : Bool) (u v : Sheet) (c : Call) (x y : Answer) (p l : ℕ) → (b ≡ true → Step s u c x p l) → (b ≡ false → Step s v c y p l) → Step s (cond b u v) c (cond b x y) p l
  step_if true u v c x y p l f g = f refl
  step_if false u v c x y p l f g = g refl

  refused : (c : Call) (f : Fault) (p l : ℕ) → Step s s c (Err f) p l
  unfolding Kept
  refused c f p l = step_none s c (Err f) p l (λ x y. no_ok y) (λ x y. no_ok y)

  step_hear : (p' l' : ℕ) (p l : ℕ) → Step s (heard m s p' l') (Hear p' l') (hear_says m s p' l') p l
  step_hear p' l' p l =
      step_if (ltb p' m.n) _ s (Hear p' l') _ (Err Place) p l
      (λ e. step_if (ltb l' m.q) _ s (Hear p' l') _ (Err Letter) p l (λ _. step_hear_set p' l' _ (ltb-true p' m.n e) p l) (λ _. refused (Hear p' l') Letter p l))
      (λ _. refused (Hear p' l') Place p l)

  step_strike : (p' : ℕ) (p l : ℕ) → Step s (struck m s p') (Strike p') (strike_says m s p') p l
  step_strike p' p l =
      step_if (ltb p' m.n) _ s (Strike p') _ (Err Place) p l
      (λ e. step_if (eqb (size (at s p')) 0) s _ (Strike p') (Err Empty) _ p l (λ _. refused (Strike p') Empty p l) (λ _. step_strike_set p' _ (ltb-true p' m.n e) p l))
      (λ _. refused (Strike p') Place p l)

  step : (c : Call) (len p l : ℕ) → Step s (next m s c) c (says m s c len) p l
  unfolding Kept
  step (Hear p' l') len p l = step_hear p' l' p l
  step (Strike p') len p l = step_strike p' p l
  step (Lists t room) len p l = step_none s (Lists t room) _ p l (λ x y. list_hear x) (λ x y. list_strike x)

-- a call keeps the number of places
same_set : {X : Type 0} (b1 b2 : Bool) (s : List X) (p : ℕ) (x : X) → length (cond b1 (cond b2 (set s p x) s) s) ≡ length s
same_set true true s p x = length-set s p x
same_set true false s p x = refl
same_set false b2 s p x = refl

same_set' : {X : Type 0} (b1 b2 : Bool) (s : List X) (p : ℕ) (x : X) → length (cond b1 (cond b2 s (set s p x)) s) ≡ length s
same_set' true true s p x = refl
same_set' true false s p x = length-set s p x
same_set' false b2 s p x = refl

pub next_length : (m : Meaning) (s : Sheet) (c : Call) → length (next m s c) ≡ length s
next_length m s (Hear p l) = same_set (ltb p m.n) (ltb l m.q) s p _
next_length m s (Strike p) = same_set' (ltb p m.n) (eqb (size (at s p)) 0) s p _
next_length m s (Lists t room) = refl

-- no accepted call strikes the place
None : List Call → List Answer → ℕ → ℕ → Type 0
None calls replies p l = (j : ℕ) → j < length calls → call_at calls j ≡ Strike p → Accepted replies j → ⊥

-- from any book
Since : Sheet → List Call → List Answer → ℕ → ℕ → Type 0
Since s calls replies p l = HeardSince calls replies p l ⊎ ((at s p l ≡ true) × None calls replies p l)

module _ (c : Call) (a : Answer) (cs : List Call) (rs : List Answer) (p l : ℕ) where
  kept_later : (w : ℕ) → ((j : ℕ) → w < j → j < length cs → call_at cs j ≡ Strike p → Accepted rs j → ⊥)
      → (j : ℕ) → suc w < j → j < suc (length cs) → call_at (c ∷ cs) j ≡ Strike p → Accepted (a ∷ rs) j → ⊥
  kept_later w k zero lt lj e acc = absurd (omega arith)
  kept_later w k (suc j) lt lj e acc = k j (omega arith) (omega arith) e acc

  later : HeardSince cs rs p l → HeardSince (c ∷ cs) (a ∷ rs) p l
  later h = record {
    when = suc h.when;
    hears = ((let e = h.hears.0 in omega arith), h.hears.1);
    accepted = h.accepted;
    kept = λ j lt c acc. kept_later h.when (λ j lt lj e. h.kept j lt (lj, e)) j lt c.0 c.1 acc;
  }

  kept_first : None cs rs p l → (j : ℕ) → 0 < j → j < suc (length cs) → call_at (c ∷ cs) j ≡ Strike p → Accepted (a ∷ rs) j → ⊥
  unfolding None
  kept_first k zero lt lj e acc = absurd (omega arith)
  kept_first k (suc j) lt lj e acc = k j (omega arith) e acc

  first : c ≡ Hear p l → is_ok a ≡ true → None cs rs p l → HeardSince (c ∷ cs) (a ∷ rs) p l
  first e ok k = record { when = 0; hears = (omega arith, e); accepted = ok; kept = λ j lt c acc. kept_first k j lt c.0 c.1 acc }

  none_first : Kept c a p → None cs rs p l → None (c ∷ cs) (a ∷ rs) p l
  unfolding None Kept
  none_first k n zero lj e acc = k e acc
  none_first k n (suc j) lj e acc = n j (omega arith) e acc

  none_rest : None (c ∷ cs) (a ∷ rs) p l → Kept c a p × None cs rs p l
  unfolding None Kept
  none_rest n = (λ e acc. n 0 (omega arith) e acc, λ j lj e acc. n (suc j) (omega arith) e acc)

  front : (w : ℕ) → w < suc (length cs) → call_at (c ∷ cs) w ≡ Hear p l → Accepted (a ∷ rs) w
      → ((j : ℕ) → w < j → j < suc (length cs) → call_at (c ∷ cs) j ≡ Strike p → Accepted (a ∷ rs) j → ⊥)
      → HeardSince cs rs p l ⊎ ((c ≡ Hear p l) × (is_ok a ≡ true) × None cs rs p l)
  unfolding None
  front zero lw e acc k = inr (e, acc, λ j lj f b. k (suc j) (omega arith) (omega arith) f b)
  front (suc w) lw e acc k = inl (record { when = w; hears = (omega arith, e); accepted = acc; kept = λ j lt d b. k (suc j) (omega arith) (let lj = d.0 in omega arith) d.1 b })

by_run : (m : Meaning) (s : Sheet) → length s ≡ m.n → (calls : List Call) (left p l : ℕ) → Iff (at (run m s calls) p l ≡ true) (Since s calls (answers m s calls left) p l)
unfolding Since None Step
by_run m s long [] left p l = (λ h. inr (h, λ j lj e acc. absurd (omega arith)), ⊎_elim (λ h. absurd (let e = h.hears.0 in omega arith)) (λ e. e.0))
by_run m s long (c ∷ cs) left p l =
    let s' = next m s c in
    let a = says m s c (takes c left) in
    let rs = answers m s' cs (left - takes c left) in
    let ih = by_run m s' (next_length m s c ∙ long) cs (left - takes c left) p l in
    let st = step m s long c (takes c left) p l in (
      λ h.
          ⊎_elim
          (λ x. inl (later c a cs rs p l x))
          (λ x. ⊎_elim (λ y. inl (first c a cs rs p l y.0 y.1 x.1)) (λ y. inr (y.0, none_first c a cs rs p l y.1 x.1)) (st.0 x.0))
          (ih.0 h),
      ⊎_elim
          (λ h. ⊎_elim (λ x. ih.1 (inl x)) (λ x. ih.1 (inr (st.1 (inl (x.0, x.1)), x.2))) (front c a cs rs p l h.when h.hears.0 h.hears.1 h.accepted (λ j lt lj e. h.kept j lt (lj, e))))
          (λ h. let n = none_rest c a cs rs p l h.1 in ih.1 (inr (st.1 (inr (h.0, n.0)), n.1))),
    )

fresh_none : (m : Meaning) (p l : ℕ) → at (fresh m) p l ≡ false
fresh_none m p l =
    ⊎_elim
    (λ lt. ap (λ f. f l) (get_or-replicate m.n p none none lt))
    (λ le. ap (λ f. f l) (get_or_past (replicate m.n none) p none (let e = length-replicate m.n none in omega arith)))
    (cases_lt p m.n)

pub remembers : (m : Meaning) (calls : List Call) (left : ℕ) → Remembers (run m (fresh m) calls) calls (answers m (fresh m) calls left)
unfolding Since
remembers m calls left p l =
    let r = by_run m (fresh m) (length-replicate m.n none) calls left p l in
    (λ h. ⊎_elim (λ x. x) (λ x. absurd (both_ways _ (fresh_none m p l) x.0)) (r.0 h), λ h. r.1 (inl h))

-- with more answers after those of the calls
pub answers_length : (m : Meaning) (s : Sheet) (calls : List Call) (left : ℕ) → length (answers m s calls left) ≡ length calls
answers_length m s [] left = refl
answers_length m s (c ∷ cs) left = ap suc (answers_length m (next m s c) cs (left - takes c left))

module _ (calls : List Call) (rs more : List Answer) (e : length rs ≡ length calls) where
  same_reply : (i : ℕ) → i < length calls → answer_at (rs ++ more) i ≡ answer_at rs i
  same_reply i h = get_or_append_left rs more (Err Place) i (omega arith)

  pub heard_more : (p l : ℕ) → HeardSince calls rs p l → HeardSince calls (rs ++ more) p l
  heard_more p l h = record {
    when = h.when;
    hears = h.hears;
    accepted = ap is_ok (same_reply h.when h.hears.0) ∙ h.accepted;
    kept = λ j lt c acc. h.kept j lt c (sym (ap is_ok (same_reply j c.0)) ∙ acc);
  }

  pub heard_less : (p l : ℕ) → HeardSince calls (rs ++ more) p l → HeardSince calls rs p l
  heard_less p l h = record {
    when = h.when;
    hears = h.hears;
    accepted = sym (ap is_ok (same_reply h.when h.hears.0)) ∙ h.accepted;
    kept = λ j lt c acc. h.kept j lt c (ap is_ok (same_reply j c.0) ∙ acc);
  }

pub remembers_all : (m : Meaning) (calls : List Call) (left : ℕ) (more : List Answer) → Remembers (run m (fresh m) calls) calls (answers m (fresh m) calls left ++ more)
remembers_all m calls left more p l =
    let r = remembers m calls left p l in
    let e = answers_length m (fresh m) calls left in
    (λ h. heard_more calls _ more e p l (r.0 h), λ h. r.1 (heard_less calls _ more e p l h))
