-- One block more of a word.
use Rattle.std.proofs.Common.{◌≡◌, ℕ, suc, ◌+◌, ◌*◌, ◌<◌, ◌≤◌, eqb, List, [], ◌∷◌, ◌++◌, length, get_or, take, drop, sym, ap, ◌∙◌, mul-le-mul_right, suc-mul, add-mul, one-mul, arith}
use Rattle.std.proofs.lemmas.List.{append_assoc, append-nil, take_more, take_at, length-append, length-take-le, take_all}
use Rattle.std.proofs.lemmas.Bool.{cond-true, eq-eqb, eqb-true, and_parts}
use Rattle.code.specs.Answers.{filled}
use Rattle.code.specs.Rule.{ListingRule}
use Rattle.concatenated.specs.Concatenation.{inner_word}
use Rattle.concatenated.specs.Writing.{with_block}
use Rattle.concatenated.specs.Rows.{digits_row}
use Rattle.code.specs.Meaning.{Meaning}
use Rattle.code.specs.Messages.{each, is_row, digits}

pub each_push : (f : ℕ → List ℕ) (vs : List ℕ) (v : ℕ) → each f (vs ++ v ∷ []) ≡ each f vs ++ f v
each_push f [] v = append-nil (f v)
each_push f (x ∷ vs) v = ap (λ z. f x ++ z) (each_push f vs v) ∙ sym (append_assoc (f x) (each f vs) (f v))

-- one block more
pub block_more : (f : ℕ → List ℕ) (n b : ℕ) (vs word word' : List ℕ) → b < length vs → b * n ≤ length word → length (f (get_or vs b 0)) ≡ n
    → take (b * n) word ≡ each f (take b vs) → word' ≡ with_block n b (f (get_or vs b 0)) word
    → take ((b + 1) * n) word' ≡ each f (take (b + 1) vs)
block_more f n b vs word word' hb hw ly e ew =
    let ys = f (get_or vs b 0) in
    let l : length (take (b * n) word ++ ys) ≡ (b + 1) * n = length-append (take (b * n) word) ys ∙ (let x = length-take-le (b * n) word hw in let z = add-mul b 1 n in let o = one-mul n in let w : length (take (b * n) word) + length ys ≡ (b + 1) * n = omega arith in w) in
    ap (take ((b + 1) * n)) (ew ∙ sym (append_assoc (take (b * n) word) ys (drop n (drop (b * n) word))))
    ∙ take_at (take (b * n) word ++ ys) (drop n (drop (b * n) word)) ((b + 1) * n) l
    ∙ ap (λ z. z ++ ys) e
    ∙ sym (ap (each f) (take_more vs b 0 hb) ∙ each_push f (take b vs) (get_or vs b 0))

pub block_is : (mi : Meaning) (x : List ℕ) (len v : ℕ) → 1 ≤ mi.p → len ≡ mi.n → x ≡ digits mi.p mi.k v → filled mi x len ≡ inner_word mi v
block_is mi x len v hp en ex =
    ap (λ z. filled mi z len) ex
    ∙ cond-true (eqb len mi.n) _ _ (eq-eqb len mi.n en)
    ∙ cond-true (is_row mi.k mi.p (digits mi.p mi.k v)) _ _ (digits_row mi.p mi.k v hp)

pub words_all : (f : ℕ → List ℕ) (n b : ℕ) (vs word : List ℕ) → length word ≡ length vs * n → b ≡ length vs → take (b * n) word ≡ each f (take b vs) → word ≡ each f vs
words_all f n b vs word lw eb e =
    sym (take_all (b * n) word (let z : length vs * n ≡ b * n = ap (λ y. y * n) (sym eb) in omega arith)) ∙ e ∙ ap (each f) (take_all b vs (omega arith))

-- the inner word of a lawful code has n letters
pub inner_word_length : (mi : Meaning) → ListingRule mi → (v : ℕ) → length (inner_word mi v) ≡ mi.n
inner_word_length mi ri v =
    let x = digits mi.p mi.k v in
    eqb-true (length (mi.word x)) mi.n (and_parts (eqb (length (mi.word x)) mi.n) _ (ri.word_row x (digits_row mi.p mi.k v ri.sizes.p_low))).0

pub next_block : (n b a l : ℕ) → b < a → l ≡ a * n → b * n + n ≤ l
next_block n b a l h e = let r : suc b * n ≤ a * n = mul-le-mul_right n h in let z = suc-mul b n in omega arith
