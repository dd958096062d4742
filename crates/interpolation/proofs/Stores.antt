-- Messages in the buffer.
use Rattle.std.proofs.Common.{◌≡◌, ℕ, ◌+◌, ◌-◌, ◌*◌, ◌/◌, ◌<◌, ◌≤◌, leb, List, [], ◌∷◌, ◌++◌, length, take, drop, replicate, Some, Ok, Err, sym, ap, ◌∙◌, ap₂, mul-add, arith}
use Rattle.std.proofs.Math.Nat.{mul-div_cancel_left}
use borrow.Rule.Slice.PartMut.{put_mid}
use Rattle.std.proofs.lemmas.List.{append_assoc, append-nil, length-append, length_push, length-replicate, length-take-le, length-drop, take_at, drop_at, drop-replicate}
use Rattle.std.proofs.lemmas.Bool.{le-leb, lt-leb, cond-true, cond-false}
use Rattle.code.specs.Messages.{each}
use Rattle.fault.specs.declared.Fault.TheVariants.{Short}
use Rattle.code.specs.Meaning.{within}
use Rattle.code.specs.Answers.{reached, padded}
use Rattle.interpolation.specs.Walk.{Held, Adds}

pub each_push : (l : List (List ℕ)) (m : List ℕ) → each (λ x. x) (l ++ m ∷ []) ≡ each (λ x. x) l ++ m
each_push [] m = append-nil m
each_push (x ∷ l) m = ap (λ z. x ++ z) (each_push l m) ∙ sym (append_assoc x (each (λ x. x) l) m)

once : (k n : ℕ) → k * (n + 1) ≡ k * n + k
once k n = omega (arith, mul-add k n 1)

size_push : (k : ℕ) (l : List (List ℕ)) (m : List ℕ) → length m ≡ k → length (each (λ x. x) l) ≡ k * length l → length (each (λ x. x) (l ++ m ∷ [])) ≡ k * length (l ++ m ∷ [])
size_push k l m e h =
    ap length (each_push l m) ∙ length-append (each (λ x. x) l) m ∙ (let o = once k (length l) in let z : length (each (λ x. x) l) + length m ≡ k * (length l + 1) = omega arith in z) ∙ ap (λ n. k * n) (sym (length_push l m))

put_length : (a k : ℕ) (buf ys : List ℕ) → a + k ≤ length buf → length ys ≡ k → length (put_mid a k buf ys) ≡ length buf
put_length a k buf ys h e =
    length-append (take a buf) (ys ++ drop k (drop a buf))
    ∙ (let t = length-take-le a buf (omega arith) in let u = length-append ys (drop k (drop a buf)) in let v = length-drop k (drop a buf) in let w = length-drop a buf in
    let z : length (take a buf) + length (ys ++ drop k (drop a buf)) ≡ length buf = omega arith in z)

put_bytes : (a k n : ℕ) (f m : List ℕ) → length f ≡ a → k ≤ n → put_mid a k (f ++ replicate n 0) m ≡ (f ++ m) ++ replicate (n - k) 0
put_bytes a k n f m e h =
    ap₂ (λ x y. x ++ (m ++ drop k y)) (take_at f (replicate n 0) a e) (drop_at f (replicate n 0) a e)
    ∙ ap (λ x. f ++ (m ++ x)) (drop-replicate k n 0)
    ∙ sym (append_assoc f m (replicate (n - k) 0))

module _ (k : ℕ) (m buf ys : List ℕ) (used : ℕ) (e : length m ≡ k) (r : used + k ≤ length buf) (same : ys ≡ m) where
  pub put_size : length (put_mid used (used + k - used) buf ys) ≡ length buf
  put_size = ap (λ n. length (put_mid used n buf ys)) (let z : used + k - used ≡ k = omega arith in z) ∙ put_length used k buf ys r (ap length same ∙ e)

  pub held_put : Adds k (m ∷ []) buf used (put_mid used (used + k - used) buf ys) (Some (used + k))
  held_put l s = record {
    size = size_push k l m e s.size;
    count = (let c = s.count in let o = once k (length l) in let z : used + k ≡ k * (length l + 1) = omega arith in z) ∙ ap (λ n. k * n) (sym (length_push l m));
    bytes =
        ap₂ (λ n y. put_mid used n buf y) (let q : used + k - used ≡ k = omega arith in q) same
        ∙ ap (λ b. put_mid used k b m) s.bytes
        ∙ put_bytes used k (length buf - used) (each (λ x. x) l) m (s.size ∙ sym s.count) (omega arith)
        ∙ ap₂ (λ x n. x ++ replicate n 0) (sym (each_push l m)) ((let z : length buf - used - k ≡ length buf - (used + k) = omega arith in z) ∙ ap (λ n. n - (used + k)) (sym put_size));
  }

pub held_none : (k len : ℕ) → Held k [] (replicate len 0) 0
held_none k len = record {
  size = let z : 0 ≡ k * 0 = omega arith in z;
  count = let z : 0 ≡ k * 0 = omega arith in z;
  bytes = ap (λ n. replicate n 0) (let e = length-replicate {A = ℕ} len 0 in let z : len ≡ length {A = ℕ} (replicate len 0) - 0 = omega arith in z);
}

-- The answer where all fit, and where they do not.
module _ (k len : ℕ) (l : List (List ℕ)) (buf : List ℕ) (same : length buf ≡ len) where
  pub fit : (used : ℕ) → Held k l buf used → k * length l ≤ len
  fit used s =
      let e = ap length s.bytes ∙ length-append (each (λ x. x) l) (replicate (length buf - used) 0) in
      let r = length-replicate {A = ℕ} (length buf - used) 0 in
      let q = s.size in
      omega arith

  pub says_some : (used : ℕ) → 1 ≤ k → Held k l buf used → Ok (used / k) ≡ reached k len l within
  says_some used h s =
      ap Ok (ap (λ n. n / k) s.count ∙ mul-div_cancel_left (length l) h) ∙ sym (cond-true (leb (k * length l) len) (Ok (length l)) (Err Short) (le-leb _ _ (fit used s)))

  pub lays_some : (used : ℕ) → Held k l buf used → buf ≡ padded len (each (λ x. x) l)
  lays_some used s =
      s.bytes ∙ ap (λ n. each (λ x. x) l ++ replicate n 0) (let q = s.size in let c = s.count in let e : length buf - used ≡ len - length (each (λ x. x) l) = omega arith in e)

  pub says_none : length buf < k * length l → Err Short ≡ reached k len l within
  says_none o = sym (cond-false (leb (k * length l) len) (Ok (length l)) (Err Short) (lt-leb _ _ (omega arith)))
