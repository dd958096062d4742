-- A concatenated code is out of reach just where a block or the lifted sheet is.
use Rattle.std.proofs.Common.{ℕ, zero, suc, ◌+◌, ◌*◌, ◌<◌, ◌≤◌, ◌⊎◌, List, sym, refl, ◌∙◌, subst, inl, inr, ⊎_elim, arith}
use Rattle.std.proofs.lemmas.Bool.{cases_eq}
use Rattle.sheet.specs.Letters.{Sheet}
use Rattle.code.specs.Meaning.{Meaning, Verdict, within, beyond, listing}
use Rattle.code.specs.Answers.{reached}
use Rattle.concatenated.specs.Lifted.{block, lifted}
use Rattle.concatenated.specs.Concatenation.{concatenated, or_block, scaled_by, reach_from}
use Rattle.concatenated.specs.Reaching.{Beyond, BlockOut, SaysReach, OutByParts, ReachByParts}
use Rattle.concatenated.proofs.Listed.{past_tests, reached_reach}

either : (at : ℕ) (v w : Verdict) → Beyond (or_block at v w) → Beyond v ⊎ Beyond w
either at within w h = inr h
either at (beyond level place) w h = inl tt

this : (at : ℕ) (v w : Verdict) → Beyond v → Beyond (or_block at v w)
this at within w h = absurd h
this at (beyond level place) w h = tt

that : (at : ℕ) (v w : Verdict) → Beyond w → Beyond (or_block at v w)
that at within w h = h
that at (beyond level place) w h = tt

unscaled : (n : ℕ) (v : Verdict) → Beyond (scaled_by n v) → Beyond v
unscaled n within h = h
unscaled n (beyond level place) h = tt

scaled : (n : ℕ) (v : Verdict) → Beyond v → Beyond (scaled_by n v)
scaled n within h = h
scaled n (beyond level place) h = tt

module _ (mi : Meaning) (a : ℕ) (s : Sheet) where
  split : (b c : ℕ) (after : Verdict) → Beyond (reach_from mi a s b c after) → BlockOut mi a s (b + c) ⊎ Beyond after
  unfolding reach_from
  split b zero after h = inr h
  split b (suc c) after h =
      ⊎_elim
      (λ x. inl (record { which = b; one = omega arith; out = x }))
      (λ y. ⊎_elim (λ z. inl (record { which = z.which; one = (let o = z.one in omega arith); out = z.out })) (λ z. inr z) (split (suc b) c after y))
      (either (b * mi.n) (mi.reach (block mi.n s b) a) (reach_from mi a s (suc b) c after) h)

  later : (b c : ℕ) (after : Verdict) → Beyond after → Beyond (reach_from mi a s b c after)
  unfolding reach_from
  later b zero after h = h
  later b (suc c) after h = that (b * mi.n) (mi.reach (block mi.n s b) a) (reach_from mi a s (suc b) c after) (later (suc b) c after h)

  found : (b c : ℕ) (after : Verdict) (d : ℕ) → b ≤ d → d < b + c → Beyond (mi.reach (block mi.n s d) a) → Beyond (reach_from mi a s b c after)
  unfolding reach_from
  found b zero after d lo hi h = absurd (omega arith)
  found b (suc c) after d lo hi h =
      ⊎_elim
      (λ e. this (b * mi.n) (mi.reach (block mi.n s b) a) (reach_from mi a s (suc b) c after) (subst (λ z. Beyond (mi.reach (block mi.n s z) a)) e h))
      (λ ne. that (b * mi.n) (mi.reach (block mi.n s b) a) (reach_from mi a s (suc b) c after) (found (suc b) c after d (let z : suc b ≤ d = omega arith in z) (let z : d < suc b + c = omega arith in z) h))
      (cases_eq d b)

pub out_by_parts : OutByParts
out_by_parts mo mi a s t =
    let after = scaled_by mi.n (mo.reach (lifted mo.n mi a s) t) in (
      λ h. ⊎_elim (λ x. inl (record { which = x.which; one = (let o = x.one in omega arith); out = x.out })) (λ y. inr (unscaled mi.n _ y)) (split mi a s 0 mo.n after h),
      λ h. ⊎_elim (λ x. found mi a s 0 mo.n after x.which (omega arith) (let o = x.one in omega arith) x.out) (λ y. later mi a s 0 mo.n after (scaled mi.n _ y)) h,
    )

says : (k len : ℕ) (L : List (List ℕ)) (v : Verdict) → Beyond v → SaysReach (reached k len L v)
says k len L within h = absurd h
says k len L (beyond level place) h = (record { level = level; place = place }, refl)

pub reach_by_parts : ReachByParts
reach_by_parts mo mi a s t len hs lo hi =
    let m = concatenated mo mi a in
    let past = past_tests m s t len hs lo hi in
    let parts = out_by_parts mo mi a s t in (
      λ h. parts.0 (subst Beyond (sym (reached_reach mo.k len (listing m s t) (m.reach s t) h.0 (sym h.1 ∙ past))) tt),
      λ h. subst SaysReach (sym past) (says mo.k len (listing m s t) (m.reach s t) (parts.1 h)),
    )
