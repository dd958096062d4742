-- The table of the powers of y.
use Rattle.std.proofs.Common.{◌≡◌, ℕ, ◌+◌, ◌*◌, ◌<◌, ◌≤◌, cond, eqb, ◌≢◌, List, length, set, replicate, sym, refl, ap, ◌∙◌, subst, arith, length-set, get_or-set_other, get_or-set_same, eq-eqb, ne_eqb}
use native.Mathlib.Decide.{ℕ_discrete}
use lib.ListN.{get_or-replicate, length-replicate}
use Rattle.algebra.specs.CodeRecovery.{at}
use Rattle.interpolation.specs.declared.led.LedCurve.{LedCurve}
use Rattle.interpolation.specs.Size.{columns, rows, cells}
use Rattle.interpolation.specs.Stepped.{led, blank, Start, Fresh, zeros}

zeros_length : length zeros ≡ cells
unfolding zeros
zeros_length = length-replicate {A = ℕ} cells 0

zeros_at : (t : ℕ) → t < cells → at zeros t ≡ 0
unfolding zeros
zeros_at t h = get_or-replicate {A = ℕ} cells t 0 0 h

pub start_none : (b : LedCurve) → b.curve.cells ≡ zeros → b.lead ≡ 0 → Start 0 (replicate rows b)
start_none b e f = record {
  size = length-replicate rows b;
  lead = λ j h. ap (λ (x : LedCurve). x.lead) (get_or-replicate rows j b blank h) ∙ f;
  done = λ j h. absurd (omega arith);
  todo = λ j _ h. ap (λ (x : LedCurve). x.curve.cells) (get_or-replicate rows j b blank h) ∙ e;
}

one_at : (n t : ℕ) → n < rows → t < cells → at (set zeros (columns * n) 1) t ≡ cond (eqb t (columns * n)) 1 0
one_at n t h l = elim (ℕ_discrete t (columns * n)) [
  | yes e ↦ subst (λ (k : ℕ). at (set zeros (columns * n) 1) k ≡ cond (eqb k (columns * n)) 1 0) (sym e)
      (get_or-set_same zeros (columns * n) 1 0 (let z = zeros_length in omega arith) ∙ ap (λ t. cond t 1 0) (sym (eq-eqb (columns * n) (columns * n) refl)))
  | no e ↦ get_or-set_other zeros (columns * n) t 1 0 e ∙ zeros_at t l ∙ ap (λ t. cond t 1 0) (sym (ne_eqb t (columns * n) e))
]

pub start_more : (n : ℕ) (cs : List LedCurve) (c : LedCurve) → n < rows → Start n cs → c.curve.cells ≡ set (led cs n).curve.cells (columns * n) 1 → c.lead ≡ (led cs n).lead → Start (n + 1) (set cs n c)
start_more n cs c h s e f =
    let fits : n < length cs = let z = s.size in omega arith in
    let here : led (set cs n c) n ≡ c = get_or-set_same cs n c blank fits in
    let other : (j : ℕ) → j ≢ n → led (set cs n c) j ≡ led cs j = λ j ne. get_or-set_other cs n j c blank ne in
    record {
      size = length-set cs n c ∙ s.size;
      lead = λ j l. elim (ℕ_discrete j n) [
        | yes q ↦ subst (λ (k : ℕ). (led (set cs n c) k).lead ≡ 0) (sym q) (ap (λ (x : LedCurve). x.lead) here ∙ f ∙ s.lead n h)
        | no q ↦ ap (λ (x : LedCurve). x.lead) (other j q) ∙ s.lead j l
      ];
      done = λ j l t k. elim (ℕ_discrete j n) [
        | yes q ↦ subst (λ (i : ℕ). at (led (set cs n c) i).curve.cells t ≡ cond (eqb t (columns * i)) 1 0) (sym q)
            (ap (λ (x : LedCurve). at x.curve.cells t) here ∙ ap (λ (x : List ℕ). at x t) (e ∙ ap (λ (x : List ℕ). set x (columns * n) 1) (s.todo n (omega arith) h)) ∙ one_at n t h k)
        | no q ↦ ap (λ (x : LedCurve). at x.curve.cells t) (other j q) ∙ s.done j (omega arith) t k
      ];
      todo = λ j l k. ap (λ (x : LedCurve). x.curve.cells) (other j (omega arith)) ∙ s.todo j (omega arith) k;
    }

pub start_all : (n : ℕ) (cs : List LedCurve) → rows ≤ n → Start n cs → Fresh cs
start_all n cs h s = record { lead = s.lead; power = λ j l. s.done j (omega arith) }
