use Rattle.std.proofs.Common.{◌≡◌, ◌+◌, ◌*◌, ◌≤◌, length, take, sym, ap, ◌∙◌, subst, arith}
use Rattle.code.specs.Messages.{each}
use Rattle.concatenated.specs.Concatenation.{inner_word}
use Rattle.concatenated.proofs.Written.{block_more, words_all, inner_word_length, next_block}
use Rattle.concatenated.proofs.words.write_blocks.Goals as goal

pub write_block-requires : goal.write_block-requires
write_block-requires g c = record {
  width = c.places-n.ensures;
  room = next_block c.places-n.result c.loop-b.b (length c.args.above.now) (length c.loop-b.word) c.loop-b-test.true
      (c.loop-b.auto.word ∙ c.requires.whole ∙ ap (λ n. length c.args.above.now * n) (sym c.places-n.ensures));
}

pub loop-b-preserved : goal.loop-b-preserved
loop-b-preserved g c =
    let mi = g.I.Code.means c.args.inner.now in
    let ri = g.met.I.Code.lawful c.args.inner.now in
    let n = c.places-n.result in
    let b = c.loop-b.b in
    let word = c.loop-b.word in
    let above = c.args.above.now in
    let next = c.write_block.new.word in
    let room : b * n + n ≤ length word = next_block n b (length above) (length word) c.loop-b-test.true (c.loop-b.auto.word ∙ c.requires.whole ∙ ap (λ z. length above * z) (sym c.places-n.ensures)) in
    let so_far : take (b * n) word ≡ each (inner_word mi) (take b above) = subst (λ z. take (b * z) word ≡ each (inner_word mi) (take b above)) (sym c.places-n.ensures) c.loop-b.invariant in
    subst (λ z. take ((b + 1) * z) next ≡ each (inner_word mi) (take (b + 1) above)) c.places-n.ensures
    (block_more (inner_word mi) n b above word next c.loop-b-test.true (omega arith) (inner_word_length mi ri _ ∙ sym c.places-n.ensures) so_far c.write_block.ensures)

pub returns : goal.returns
returns g c =
    let mi = g.I.Code.means c.args.inner.now in
    words_all (inner_word mi) mi.n c.loop-b.b c.args.above.now c.loop-b.word (c.loop-b.auto.word ∙ c.requires.whole) (omega (arith, c.loop-b.auto.b-end, c.loop-b-test.false)) c.loop-b.invariant
