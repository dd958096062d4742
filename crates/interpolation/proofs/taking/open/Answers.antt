use Rattle.std.proofs.Common.{◌≡◌, ℕ, ◌-◌, ◌≤◌, true, leb, Some, sym, ◌∙◌, arith, rules}
use Rattle.std.proofs.lemmas.Bool.{and_parts, leb-true}
use Rattle.counting.specs.Counting.{limits, suits}
use Rattle.counting.proofs.First.{smallest_passes}
use Rattle.interpolation.specs.Fitting.{shaped}
use Rattle.interpolation.proofs.Opening.{few_pairs}
use Rattle.interpolation.proofs.taking.open.Goals as goal

-- what the test of k and t shows
in_limits : (k t : ℕ) → shaped k t ≡ true → (1 ≤ k) × (k ≤ 16) × (1 ≤ t) × (t ≤ 64)
in_limits k t e =
    let a = and_parts (leb 1 k) _ e in
    let b = and_parts (leb k 16) _ a.1 in
    let c = and_parts (leb 1 t) _ b.1 in
    (leb-true 1 k a.0, leb-true k 16 b.0, leb-true 1 t c.0, leb-true t 64 c.1)

pub invariant_of-result : goal.invariant_of-result
invariant_of-result c =
    let s = in_limits c.args.k c.args.t (sym c.if-not-is_shaped.ensures) in
    let some : c.counting.result ≡ Some c.in_ok-r.r = search rules in
    let found = smallest_passes (suits limits (c.args.k - 1) c.args.t c.args.limit) 1 4 c.in_ok-r.r (sym c.counting.ensures ∙ some) in
    record {
      k_low = s.0;
      k_high = s.1;
      t_low = s.2;
      t_high = s.3;
      few = few_pairs (c.args.k - 1) c.args.t c.args.limit c.in_ok-r.r found.0 found.1;
      r_low = found.1;
      r_high = omega (arith, found.2);
      counted = found.0;
    }
