-- What `first` finds, and operands that are read.
use Rattle.std.proofs.Common.{◌≡◌, ℕ, zero, suc, ◌+◌, ◌<◌, ◌≤◌, Bool, true, false, cond, T, ltb, sym, refl, ap, subst, add-zero, add-suc, suc-add, arith, ltb→lt, lt→ltb}
use Rattle.algebra.specs.Field.{read, first}

T_true : (b : Bool) → T b → b ≡ true
T_true true t = refl
T_true false t = absurd t

pub read_below : (q a : ℕ) → a < q → read q a ≡ a
read_below q a h = ap (λ t. cond t a 0) (T_true (ltb a q) (lt→ltb a q h))

cond_below : (t : Bool) (q a : ℕ) → (T t → a < q) → 0 < q → cond t a 0 < q
cond_below true q a h z = h tt
cond_below false q a h z = z

pub read_lt : (q a : ℕ) → 0 < q → read q a < q
read_lt q a z = cond_below (ltb a q) q a (ltb→lt a q) z

cond_step : (t : Bool) (f : ℕ → Bool) (b x : ℕ) → t ≡ f b → (f b ≡ false → T (f x)) → T (f (cond t b x))
cond_step true f b x e h = subst T e tt
cond_step false f b x e h = h (sym e)

false_T : (b : Bool) → b ≡ false → T b → ⊥
false_T true e t = subst T e tt
false_T false e t = t

-- Where some number in the range passes, the one found passes.
pub found : (f : ℕ → Bool) (b n w : ℕ) → b ≤ w → w < b + n → T (f w) → T (f (first f b n))
found f b zero w lo hi t = absurd (let e : b + zero ≡ b = add-zero b in omega arith)
found f b (suc n) w lo hi t =
    cond_step (f b) f b (first f (suc b) n) refl
    (λ e. found f (suc b) n w
    (let ne : b ≡ w → ⊥ = λ h. false_T (f b) e (subst (λ x. T (f x)) (sym h) t) in omega arith)
    (omega (arith, add-suc b n, suc-add b n)) t)

cond_lt : (t : Bool) (b x m : ℕ) → b < m → x < m → cond t b x < m
cond_lt true b x m h k = h
cond_lt false b x m h k = k

pub first_below : (f : ℕ → Bool) (b n m : ℕ) → 0 < m → b + n ≤ m → first f b n < m
first_below f b zero m z h = z
first_below f b (suc n) m z h =
    cond_lt (f b) b (first f (suc b) n) m (omega (arith, add-suc b n)) (first_below f (suc b) n m z (omega (arith, add-suc b n, suc-add b n)))

cond_none : (t : Bool) (b x : ℕ) → (T t → ⊥) → x ≡ 0 → cond t b x ≡ 0
cond_none true b x h e = absurd (h tt)
cond_none false b x h e = e

pub none : (f : ℕ → Bool) (b n : ℕ) → ((w : ℕ) → T (f w) → ⊥) → first f b n ≡ 0
none f b zero h = refl
none f b (suc n) h = cond_none (f b) b (first f (suc b) n) (h b) (none f (suc b) n h)
