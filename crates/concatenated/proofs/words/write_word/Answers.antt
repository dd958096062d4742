use Rattle.std.proofs.Common.{◌∙◌, ap₂}
use Rattle.code.specs.Messages.{digits}
use Rattle.concatenated.specs.Blocks.{cut}
use Rattle.concatenated.proofs.Written.{block_is}
use Rattle.concatenated.proofs.words.write_word.Goals as goal

pub returns : goal.returns
returns g c =
    let mi = g.I.Code.means c.args.inner.now in
    let sizes = (g.met.I.Code.lawful c.args.inner.now).sizes in
    c.encode.ensures.buffer
    ∙ block_is mi c.spell.new.message _ c.args.letter sizes.p_low c.requires.whole
    (c.spell.ensures ∙ ap₂ (λ p k. digits p k c.args.letter) c.largest.ensures (cut _ c.dimension.ensures sizes.k_high))
