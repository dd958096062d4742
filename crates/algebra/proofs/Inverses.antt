-- How the inverse is found.
use Rattle.std.proofs.Common.{◌≡◌, ℕ, zero, suc, ◌<◌, sym, refl, ap, ◌∙◌, ap₂, arith}
use Rattle.algebra.specs.Field.{Meaning, Laws, read}
use Rattle.algebra.proofs.FirstFound.{read_below, read_lt}
use Rattle.algebra.proofs.Ring.{inverse_unique}
use Rattle.algebra.proofs.Elements as el

module _ (F : Meaning) (L : Laws F) where
  pub inverse_found : (a b : ℕ) → b < F.size → F.product a b ≡ 1 → b ≡ F.inverse a
  inverse_found a b h e =
      let one : (el.field F L).ring.ops.mul (el.decode F L a) (el.decode F L b) ≡ (el.field F L).ring.ops.one = sym (el.decode_product F L a b) ∙ ap (el.decode F L) e ∙ el.decode_one F L in
      let k : el.decode F L b ≡ el.decode F L (F.inverse a) = inverse_unique (el.field F L) _ _ one ∙ sym (el.decode_inverse F L a) in
      sym (el.code_decode F L b h) ∙ ap (λ (x : el.Element F.size). x.code) k ∙ el.code_decode F L (F.inverse a) (L.inverse_below a)

  by_read : (a n : ℕ) → read F.size a ≡ n → n < F.size → ((b : ℕ) → b < F.size → F.product a b ≡ 1 → ⊥) → F.inverse a ≡ 0
  by_read a zero e h none = L.inverse_reads a ∙ ap F.inverse e ∙ L.inverse_zero
  by_read a (suc n) e h none =
      absurd (none (F.inverse a) (L.inverse_below a)
      (L.product_reads a (F.inverse a) ∙ ap₂ F.product e (read_below F.size (F.inverse a) (L.inverse_below a) ∙ L.inverse_reads a ∙ ap F.inverse e)
      ∙ L.inverse_one (suc n) (omega arith) h))

  pub inverse_none : (a : ℕ) → ((b : ℕ) → b < F.size → F.product a b ≡ 1 → ⊥) → F.inverse a ≡ 0
  inverse_none a none = by_read a (read F.size a) refl (read_lt F.size a (let h = L.two in omega arith)) none
