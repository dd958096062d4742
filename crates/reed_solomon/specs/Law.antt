-- A Reed-Solomon code is lawful.
use Rattle.std.specs.Prelude.{◌≡◌, ℕ, suc, ◌-◌, ◌≤◌, Bool, true, false, cond, List, [], ◌∷◌, nat_le, refl}
use Rattle.std.proofs.Common.{ap, ◌∙◌, arith}
use Rattle.std.proofs.lemmas.Bool.{cond-true, le-leb, leb-true}
use Rattle.algebra.specs.Field.{Meaning as Field, Laws}
use Rattle.code.specs.Meaning.{within, beyond, listing, clean}
use Rattle.code.specs.Messages.{is_row}
use Rattle.code.specs.Rule.{ListingRule, Inside}
use Rattle.code.specs.Score.{hits}
use Rattle.sheet.specs.Letters.{weight}
use Rattle.code.proofs.Alone.{kept_one, row_length, row_every}
use Rattle.code.proofs.Scores.{weight_clean, hits_self}
use Rattle.counting.specs.Counting.{Limits, limits, in_reach}
use Rattle.reed_solomon.specs.Least.{least_reach}
use Rattle.reed_solomon.specs.ReedSolomon.{rs_at, word_at, rs_meaning, Shape, Points, Bounds, most_places}
use Rattle.reed_solomon.specs.LeastLemmas as least
use Rattle.reed_solomon.specs.Distance as distance

module _ (L : Limits) (lr : 1 ≤ L.multiplicity) (ly : 1 ≤ L.power) (ld : most_places ≤ suc L.degree) (F : Field) (laws : Laws F) (n k : ℕ) (fit : Bounds n k) (ps : List ℕ) (points : Points F n ps) where
  fits : n ≤ suc L.degree
  fits = let h = fit.n_high in omega arith

  low : k ≤ least_reach L n k
  low = least.least_low L n k lr ly fits fit.k_low fit.k_n

  inside : (b : Bool) → Inside n (cond b within (beyond 0 0))
  inside true = tt
  inside false = (let h = fit.k_low in let g = fit.k_n in omega arith)

  load : (x : List ℕ) → weight (clean (word_at F ps x)) ≡ n
  load x =
      let r = distance.word_row F laws n k ps points x in
      weight_clean (word_at F ps x) F.size laws.small (row_every n F.size _ r) ∙ row_length n F.size _ r

  clean_reach : (x : List ℕ) (t : ℕ) → least_reach L n k ≤ t → t ≤ n → (rs_at L F n ps k).reach (clean (word_at F ps x)) t ≡ within
  clean_reach x t lo hi =
      ap (λ z. cond (in_reach L (k - 1) t z) within (beyond 0 0)) (load x)
      ∙ cond-true (in_reach L (k - 1) t n) _ _ (least.least_reaches L n k lr ly fits fit.k_low fit.k_n t lo hi)

  clean_alone : (x : List ℕ) → is_row k F.size x ≡ true → (t : ℕ) → least_reach L n k ≤ t → t ≤ n → listing (rs_at L F n ps k) (clean (word_at F ps x)) t ≡ x ∷ []
  unfolding listing
  clean_alone x r t lo hi =
      kept_one F.size k (λ y. nat_le t (hits (clean (word_at F ps x)) (word_at F ps y))) x r
      (le-leb t _ (let s = hits_self (word_at F ps x) in let l = row_length n F.size _ (distance.word_row F laws n k ps points x) in omega arith))
      (λ y ry e. distance.one_message F laws n k ps points x y r ry (let h = leb-true t _ e in let l = low in omega arith))

  pub points_lawful : ListingRule (rs_at L F n ps k)
  points_lawful =
      let b = laws.small in
      let w = laws.two in
      let k1 = fit.k_low in
      let k2 = fit.k_high in
      let kn = fit.k_n in
      let nh = fit.n_high in
      record {
        sizes = record {
          q_low = omega arith;
          q_high = b;
          n_low = omega arith;
          n_high = omega arith;
          p_low = omega arith;
          p_high = b;
          k_low = k1;
          k_high = k2;
          least_low = (let l = low in omega arith);
          least_top = least.least_high L n k lr ly fits fit.k_low fit.k_n;
        };
        word_row = λ x e. distance.word_row F laws n k ps points x;
        reach_inside = λ s t. inside (in_reach L (k - 1) t (weight s));
        nested_same = λ s t hs lo hi e x ex. refl;
        clean_reach = λ x e t lo hi. clean_reach x t lo hi;
        clean_alone = λ x e t lo hi. clean_alone x e t lo hi;
      }

pub shape_lawful : (L : Limits) → 1 ≤ L.multiplicity → 1 ≤ L.power → most_places ≤ suc L.degree → (F : Field) → Laws F → (n k : ℕ) → Shape F n k → ListingRule (rs_meaning L F n k)
shape_lawful L lr ly ld F laws n k shape = points_lawful L lr ly ld F laws n k shape.bounds _ (distance.spanned F n shape.n_q)

-- the same at the bounds of the program
pub lawful_at_limits : (F : Field) → Laws F → (n k : ℕ) → Shape F n k → ListingRule (rs_meaning limits F n k)
lawful_at_limits F laws n k shape = shape_lawful limits (omega arith) (omega arith) (omega arith) F laws n k shape
