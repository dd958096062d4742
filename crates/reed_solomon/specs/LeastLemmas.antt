-- The least agreement: where it lies, and what holds from it on.
use Rattle.std.specs.Prelude.{◌≡◌, ℕ, zero, suc, ◌+◌, ◌-◌, ◌<◌, ◌≤◌, Bool, true, false, refl}
use Rattle.std.proofs.Common.{sym, ◌∙◌, subst, ⊎_elim, arith}
use Rattle.std.proofs.Math.Path.{ap}
use Rattle.std.proofs.lemmas.Bool.{and_parts, and_from, cases_Bool, cases_eq, both_ways}
use Rattle.counting.specs.Counting.{Limits, in_reach}
use Rattle.counting.proofs.First.{First, first_is, find_first}
use Rattle.counting.proofs.Monomials.{reach_top}
use Rattle.reed_solomon.specs.Least.{all_from, or_zero, least_reach}

pub all_at : (test : ℕ → Bool) (b left u : ℕ) → all_from test b left ≡ true → b ≤ u → u < b + left → test u ≡ true
all_at test b zero u e lo hi = absurd (omega arith)
all_at test b (suc left) u e lo hi =
    let p = and_parts (test b) (all_from test (suc b) left) e in
    ⊎_elim (λ q. ap test (sym q) ∙ p.0) (λ n. all_at test (suc b) left u p.1 (omega arith) (omega arith)) (cases_eq b u)

pub all_here : (test : ℕ → Bool) (b left : ℕ) → ((u : ℕ) → b ≤ u → u < b + left → test u ≡ true) → all_from test b left ≡ true
all_here test b zero h = refl
all_here test b (suc left) h = and_from _ _ (h b (omega arith) (omega arith)) (all_here test (suc b) left (λ u lo hi. h u (omega arith) (omega arith)))

pub all_broken : (test : ℕ → Bool) (b left u : ℕ) → test u ≡ false → b ≤ u → u < b + left → all_from test b left ≡ false
all_broken test b left u e lo hi = ⊎_elim (λ t. absurd (both_ways (test u) e (all_at test b left u t lo hi))) (λ f. f) (cases_Bool (all_from test b left))

module _ (L : Limits) (n k : ℕ) where
  abbrev pub Good : ℕ → Bool
  Good u = in_reach L (k - 1) u n

  abbrev pub On : ℕ → Bool
  On t = all_from (λ u. in_reach L (k - 1) u n) t (suc n - t)

  -- it is known by what it is
  pub least_is : (t : ℕ) → First (On) k (suc n - k) t → least_reach L n k ≡ t
  unfolding least_reach
  least_is t f = ap or_zero (first_is On k (suc n - k) t f)

  module _ (r : 1 ≤ L.multiplicity) (y : 1 ≤ L.power) (d : n ≤ suc L.degree) (k1 : 1 ≤ k) (kn : k ≤ n) where
    pub top_good : in_reach L (k - 1) n n ≡ true
    top_good = reach_top L (k - 1) n r y d (omega arith)

    pub top_on : On n ≡ true
    top_on = all_here (λ u. in_reach L (k - 1) u n) n (suc n - n) (λ u lo hi. ap Good (let e : u ≡ n = omega arith in e) ∙ top_good)

    found : (t : ℕ) × First On k (suc n - k) t
    found = find_first On k (suc n - k) n kn (omega arith) top_on

    pub least_low : k ≤ least_reach L n k
    least_low = let f = found.1 in let l = f.low in subst (λ z. k ≤ z) (sym (least_is found.0 f)) l

    pub least_high : least_reach L n k ≤ n
    least_high = let f = found.1 in let h = f.high in subst (λ z. z ≤ n) (sym (least_is found.0 f)) (omega arith)

    -- from the least to n, load n is in reach
    pub least_reaches : (t : ℕ) → least_reach L n k ≤ t → t ≤ n → in_reach L (k - 1) t n ≡ true
    least_reaches t lo hi =
        let f = found.1 in
        let e = least_is found.0 f in
        all_at (λ u. in_reach L (k - 1) u n) found.0 (suc n - found.0) t f.passes (omega arith) (omega arith)

module _ (L : Limits) (n k : ℕ) where
  -- t + 1 is the least where t is out of reach, and k where all from k on are in reach
  pub least_here : (t : ℕ) → k ≤ t → t ≤ n → ((u : ℕ) → t ≤ u → u ≤ n → in_reach L (k - 1) u n ≡ true) → ((u : ℕ) → suc u ≡ t → k ≤ u → in_reach L (k - 1) u n ≡ false)
      → t ≡ least_reach L n k
  least_here t lo hi on off =
      sym (least_is L n k t (record {
        low = lo;
        high = omega arith;
        passes = all_here (λ u. in_reach L (k - 1) u n) t (suc n - t) (λ u l h. on u l (omega arith));
        before = λ u l h. all_broken (λ u. in_reach L (k - 1) u n) u (suc n - u) (t - 1) (off (t - 1) (omega arith) (omega arith)) (omega arith) (omega arith);
      }))
