use Rattle.std.proofs.Common.{◌≡◌, ℕ, suc, ◌+◌, ◌-◌, ◌*◌, ◌<◌, ◌≤◌, List, ◌∷◌, length, get_or, drop, sym, ap, ◌∙◌, ap₂, suc-mul, mul-le-mul, arith, drop-cons}
use lib.Seq.{drop-length}
use Rattle.algebra.specs.Field.{Meaning as Field}
use Rattle.generator.specs.Generator.{sum_rows, column, max_rows, max_places, table_size}
use Rattle.generator.proofs.words.letter_of.Goals as goal

next : (F : Field) (col : ℕ → ℕ) (cs : List ℕ) (i h t r : ℕ) → 0 < i → i ≤ length cs → h ≡ sum_rows F col i (drop i cs) → t ≡ F.product (get_or cs (i - 1) 0) (col (i - 1)) → r ≡ F.sum t h
    → r ≡ sum_rows F col (i - 1) (drop (i - 1) cs)
next F col cs i h t r pos most e p s =
    let up : suc (i - 1) ≡ i = omega arith in
    let low : i - 1 < length cs = omega arith in
    let cut : drop (i - 1) cs ≡ get_or cs (i - 1) 0 ∷ drop i cs = drop-cons cs (i - 1) 0 low ∙ ap (λ n. get_or cs (i - 1) 0 ∷ drop n cs) up in
    s ∙ ap₂ F.sum p (e ∙ ap (λ n. sum_rows F col n (drop i cs)) (sym up)) ∙ sym (ap (sum_rows F col (i - 1)) cut)

inside : (i n j : ℕ) → i < max_rows → n ≤ max_places → j < n → i * n + j < table_size
inside i n j hi hn hj =
    let h : suc i * n ≤ table_size = mul-le-mul hi hn in
    let s = suc-mul i n in
    omega arith

pub loop-i-init : goal.loop-i-init
loop-i-init g c = sym (ap (sum_rows (g.F.Field.means c.args.field.now) (column c.args.table.now c.args.n c.args.j) (length c.args.message.now)) (drop-length c.args.message.now))

pub bounds-table-i : goal.bounds-table-i
bounds-table-i g c = let k = c.loop-i.auto.i in let z = inside (c.loop-i.i - 1) c.args.n c.args.j (omega (arith, c.requires.message, c.loop-i-test.true)) c.requires.n c.requires.j in omega (arith, c.requires.table)

pub loop-i-preserved : goal.loop-i-preserved
loop-i-preserved g c =
    next (g.F.Field.means c.args.field.now) (column c.args.table.now c.args.n c.args.j) c.args.message.now c.loop-i.i c.loop-i.sum _ _
    c.loop-i-test.true c.loop-i.auto.i c.loop-i.invariant c.mul.ensures c.add-sum.ensures
