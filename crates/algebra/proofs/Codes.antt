-- A field from laws of its operations on codes below the size.
use Rattle.std.proofs.Common.{◌≡◌, ℕ, ◌<◌, ◌≤◌, T, eqb, sym, ap, ◌∙◌, subst, zero-add, arith, eqb→eq}
use lib.Dec.{eqb_refl}
use Rattle.algebra.specs.Field.{Laws, field_of, read, first}
use Rattle.algebra.proofs.FirstFound.{read_below, read_lt, found, first_below, none}

-- What a field of q codes needs of its sum s, difference d and product p on codes below q.
pub record Codes (q : ℕ) (s d p : ℕ → ℕ → ℕ) : Type 0 where
  pub small : q ≤ 256
  pub two : 1 < q
  pub s_below : (a b : ℕ) → a < q → b < q → s a b < q
  pub d_below : (a b : ℕ) → a < q → b < q → d a b < q
  pub p_below : (a b : ℕ) → a < q → b < q → p a b < q
  pub s_assoc : (a b c : ℕ) → a < q → b < q → c < q → s (s a b) c ≡ s a (s b c)
  pub s_comm : (a b : ℕ) → a < q → b < q → s a b ≡ s b a
  pub s_zero : (a : ℕ) → a < q → s a 0 ≡ a
  pub p_assoc : (a b c : ℕ) → a < q → b < q → c < q → p (p a b) c ≡ p a (p b c)
  pub p_comm : (a b : ℕ) → a < q → b < q → p a b ≡ p b a
  pub p_one : (a : ℕ) → a < q → p a 1 ≡ a
  pub p_zero : (b : ℕ) → b < q → p 0 b ≡ 0
  pub dist : (a b c : ℕ) → a < q → b < q → c < q → p a (s b c) ≡ s (p a b) (p a c)
  pub d_s : (a b : ℕ) → a < q → b < q → s (d a b) b ≡ a
  pub witness : (a : ℕ) → 0 < a → a < q → (b : ℕ) × (b < q) × (p a b ≡ 1)

two : (f : ℕ → ℕ → ℕ) (a a' b b' : ℕ) → a ≡ a' → b ≡ b' → f a b ≡ f a' b'
two f a a' b b' e h = cc

T_of : (m n : ℕ) → m ≡ n → T (eqb m n)
T_of m n e = subst (λ x. T (eqb m x)) e (eqb_refl m)

module _ (q : ℕ) (s d p : ℕ → ℕ → ℕ) (L : Codes q s d p) where
  r_lt : (a : ℕ) → read q a < q
  r_lt a = read_lt q a (let t = L.two in omega arith)

  r_r : (a : ℕ) → read q (read q a) ≡ read q a
  r_r a = read_below q (read q a) (r_lt a)

  r_at : (f : ℕ → ℕ → ℕ) (a b : ℕ) → a < q → b < q → f (read q a) (read q b) ≡ f a b
  r_at f a b ha hb = two f (read q a) a (read q b) b (read_below q a ha) (read_below q b hb)

  zero_lt : 0 < q
  zero_lt = let t = L.two in omega arith

  assoc : (f : ℕ → ℕ → ℕ) → ((a b : ℕ) → a < q → b < q → f a b < q)
      → ((a b c : ℕ) → a < q → b < q → c < q → f (f a b) c ≡ f a (f b c))
      → (a b c : ℕ) → f (read q (f (read q a) (read q b))) (read q c) ≡ f (read q a) (read q (f (read q b) (read q c)))
  assoc f below law a b c =
      ap (λ x. f x (read q c)) (read_below q _ (below _ _ (r_lt a) (r_lt b)))
      ∙ law _ _ _ (r_lt a) (r_lt b) (r_lt c)
      ∙ sym (ap (f (read q a)) (read_below q _ (below _ _ (r_lt b) (r_lt c))))

  inverted : (a : ℕ) → 0 < a → a < q → p (read q a) (read q (first (λ b. eqb (p (read q a) (read q b)) 1) 0 q)) ≡ 1
  inverted a h ha =
      let w = L.witness a h ha in
      eqb→eq _ 1 (found (λ b. eqb (p (read q a) (read q b)) 1) 0 q w.0 (omega arith) (omega (arith, zero-add q, w.1))
      (T_of _ 1 (r_at p a w.0 ha w.1 ∙ w.2)))

  one_not_zero : (x : ℕ) → x ≡ 1 → x ≡ 0 → ⊥
  one_not_zero x e h = omega arith

  pub in_field : (family : ℕ) → Laws (field_of family q s d p)
  in_field family = record {
    small = L.small;
    two = L.two;
    sum_reads = λ a b. two s _ _ _ _ (sym (r_r a)) (sym (r_r b));
    difference_reads = λ a b. two d _ _ _ _ (sym (r_r a)) (sym (r_r b));
    product_reads = λ a b. two p _ _ _ _ (sym (r_r a)) (sym (r_r b));
    inverse_reads = λ a. ap (λ x. first (λ b. eqb (p x (read q b)) 1) 0 q) (sym (r_r a));
    sum_below = λ a b. L.s_below _ _ (r_lt a) (r_lt b);
    difference_below = λ a b. L.d_below _ _ (r_lt a) (r_lt b);
    product_below = λ a b. L.p_below _ _ (r_lt a) (r_lt b);
    inverse_below = λ a. first_below _ 0 q q zero_lt (omega (arith, zero-add q));
    sum_assoc = λ a b c _ _ _. assoc s L.s_below L.s_assoc a b c;
    sum_comm = λ a b ha hb. L.s_comm _ _ (r_lt a) (r_lt b);
    sum_zero = λ a ha. r_at s a 0 ha zero_lt ∙ L.s_zero a ha;
    product_assoc = λ a b c _ _ _. assoc p L.p_below L.p_assoc a b c;
    product_comm = λ a b ha hb. L.p_comm _ _ (r_lt a) (r_lt b);
    product_one = λ a ha. r_at p a 1 ha L.two ∙ L.p_one a ha;
    distributes = λ a b c _ _ _.
        ap (p (read q a)) (read_below q _ (L.s_below _ _ (r_lt b) (r_lt c)))
        ∙ L.dist _ _ _ (r_lt a) (r_lt b) (r_lt c)
        ∙ sym (r_at s _ _ (L.p_below _ _ (r_lt a) (r_lt b)) (L.p_below _ _ (r_lt a) (r_lt c)));
    difference_sum = λ a b ha hb.
        ap (λ x. s x (read q b)) (read_below q _ (L.d_below _ _ (r_lt a) (r_lt b)))
        ∙ L.d_s _ _ (r_lt a) (r_lt b) ∙ read_below q a ha;
    inverse_one = λ a h ha. inverted a h ha;
    inverse_zero =
        none (λ b. eqb (p (read q 0) (read q b)) 1) 0 q
        (λ w t. one_not_zero _ (eqb→eq (p (read q 0) (read q w)) 1 t) (ap (λ x. p x (read q w)) (read_below q 0 zero_lt) ∙ L.p_zero _ (r_lt w)));
  }
