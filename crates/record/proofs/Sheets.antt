-- A record's sheet is always one of its code.
use Rattle.std.proofs.Common.{◌≡◌, ℕ, zero, suc, ◌*◌, ◌<◌, Bool, true, false, cond, not, ◌&&◌, ◌||◌, eqb, ltb, leb, List, [], ◌∷◌, length, get_or, set, replicate, Ok, Err, sym, refl, ap, ◌∙◌, subst, ⊎_elim, arith}
use Rattle.std.proofs.lemmas.List.{length-set, length-replicate}
use Rattle.std.proofs.lemmas.Bool.{and_parts, and_from, or_right, eq-eqb, ne_eqb, eqb-true, lt-ltb, ltb-true, cases_eq, cond-true, both_ways}
use Rattle.sheet.specs.Letters.{Letters, Sheet, none, join, size}
use Rattle.fault.specs.Numbers.{number}
use Rattle.fault.specs.declared.Fault.TheVariants.{Place, Letter, Agreement, Sheet as BadSheet, Short, Empty}
use Rattle.code.specs.Meaning.{Meaning, Verdict, within, beyond, below, is_sheet, listing}
use Rattle.code.specs.Messages.{every}
use Rattle.code.specs.Answers.{reached}
use Rattle.record.specs.declared.calls.Call.{Call}
use Rattle.record.specs.declared.calls.Call.TheVariants.{Hear, Strike, List as Lists}
use Rattle.record.specs.Book.{Answer, fresh, at, says, next, run}

below_none : (q n : ℕ) → below q n none ≡ true
unfolding below
below_none q zero = refl
below_none q (suc n) = below_none q n

below_join : (q n l : ℕ) (s : Letters) → l < q → below q n s ≡ true → below q n (join l s) ≡ true
unfolding below
below_join q zero l s h e = refl
below_join q (suc n) l s h e =
    let p = and_parts (not (s n) || ltb n q) (below q n s) e in
    and_from _ _
    (⊎_elim
    (λ i. or_right (not (eqb n l || s n)) (ltb n q) (lt-ltb n q (omega arith)))
    (λ ne. ap (λ z. not (z || s n) || ltb n q) (ne_eqb n l ne) ∙ p.0)
    (cases_eq n l))
    (below_join q n l s h p.1)

every_set : {X : Type 0} (f : X → Bool) (xs : List X) (i : ℕ) (x : X) → every f xs ≡ true → f x ≡ true → every f (set xs i x) ≡ true
every_set f [] i x e h = refl
every_set f (y ∷ xs) zero x e h = and_from (f x) _ h (and_parts (f y) (every f xs) e).1
every_set f (y ∷ xs) (suc i) x e h = let p = and_parts (f y) (every f xs) e in and_from (f y) _ p.0 (every_set f xs i x p.1 h)

every_at : {X : Type 0} (f : X → Bool) (xs : List X) (i : ℕ) (d : X) → every f xs ≡ true → f d ≡ true → f (get_or xs i d) ≡ true
every_at f [] i d e h = h
every_at f (y ∷ xs) zero d e h = (and_parts (f y) (every f xs) e).0
every_at f (y ∷ xs) (suc i) d e h = every_at f xs i d (and_parts (f y) (every f xs) e).1 h

every_replicate : {X : Type 0} (f : X → Bool) (n : ℕ) (x : X) → f x ≡ true → every f (replicate n x) ≡ true
every_replicate f zero x h = refl
every_replicate f (suc n) x h = and_from (f x) _ h (every_replicate f n x h)

pub legal_fresh : (m : Meaning) → is_sheet m (fresh m) ≡ true
unfolding is_sheet
legal_fresh m = and_from _ _ (eq-eqb _ m.n (length-replicate m.n none)) (every_replicate (below m.q 256) m.n none (below_none m.q 256))

module _ (m : Meaning) (s : Sheet) (h : is_sheet m s ≡ true) where
  legal_set : (p : ℕ) (x : Letters) → below m.q 256 x ≡ true → is_sheet m (set s p x) ≡ true
  unfolding is_sheet
  legal_set p x e =
      let q = and_parts (eqb (length s) m.n) _ h in
      and_from _ _ (eq-eqb _ m.n (length-set s p x ∙ eqb-true (length s) m.n q.0)) (every_set (below m.q 256) s p x q.1 e)

  legal_at : (p : ℕ) → below m.q 256 (at s p) ≡ true
  unfolding is_sheet
  legal_at p = every_at (below m.q 256) s p none (and_parts (eqb (length s) m.n) _ h).1 (below_none m.q 256)

  cond_legal : (b : Bool) (u v : Sheet) → (b ≡ true → is_sheet m u ≡ true) → (b ≡ false → is_sheet m v ≡ true) → is_sheet m (cond b u v) ≡ true
  cond_legal true u v f g = f refl
  cond_legal false u v f g = g refl

  pub legal_next : (c : Call) → is_sheet m (next m s c) ≡ true
  legal_next (Hear p l) =
      cond_legal (ltb p m.n) _ s
      (λ _. cond_legal (ltb l m.q) _ s (λ e. legal_set p (join l (at s p)) (below_join m.q 256 l (at s p) (ltb-true l m.q e) (legal_at p))) (λ _. h))
      (λ _. h)
  legal_next (Strike p) = cond_legal (ltb p m.n) _ s (λ _. cond_legal (eqb (size (at s p)) 0) s _ (λ _. h) (λ _. legal_set p none (below_none m.q 256))) (λ _. h)
  legal_next (Lists t room) = h

-- no call on a sheet of the code is refused for its sheet, whose number is 8
abbrev named : Answer → ℕ
named (Ok c) = 0
named (Err f) = number f

abbrev Other : Answer → Type 0
Other r = eqb (named r) 8 ≡ false

cond_other : (b : Bool) (u v : Answer) → Other u → Other v → Other (cond b u v)
cond_other true u v f g = f
cond_other false u v f g = g

reached_other : (k len : ℕ) (L : List (List ℕ)) (v : Verdict) → Other (reached k len L v)
reached_other k len L within = cond_other (leb (k * length L) len) (Ok (length L)) (Err Short) refl refl
reached_other k len L (beyond level place) = refl

says_other : (m : Meaning) (s : Sheet) → is_sheet m s ≡ true → (c : Call) (len : ℕ) → Other (says m s c len)
says_other m s h (Hear p l) len = cond_other (ltb p m.n) _ (Err Place) (cond_other (ltb l m.q) (Ok _) (Err Letter) refl refl) refl
says_other m s h (Strike p) len = cond_other (ltb p m.n) _ (Err Place) (cond_other (eqb (size (at s p)) 0) (Err Empty) (Ok _) refl refl) refl
says_other m s h (Lists t room) len =
    subst Other (sym (cond-true (is_sheet m s) _ _ h)) (cond_other (leb 1 t && leb t m.top) _ (Err Agreement) (reached_other m.k len (listing m s t) (m.reach s t)) refl)

pub never_sheet : (m : Meaning) (s : Sheet) → is_sheet m s ≡ true → (c : Call) (len : ℕ) → says m s c len ≡ Err BadSheet → ⊥
never_sheet m s h c len e = both_ways _ (says_other m s h c len) (ap (λ r. eqb (named r) 8) e)

pub legal_run : (m : Meaning) (s : Sheet) (calls : List Call) → is_sheet m s ≡ true → is_sheet m (run m s calls) ≡ true
legal_run m s [] h = h
legal_run m s (c ∷ cs) h = legal_run m (next m s c) cs (legal_next m s h c)
