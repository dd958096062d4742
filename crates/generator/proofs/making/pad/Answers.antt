use Rattle.std.proofs.Common.{◌≡◌, ◌-◌, length, replicate, refl, ◌∙◌, arith}
use Rattle.std.proofs.lemmas.Slice.{put_mid-paste}
use Rattle.generator.specs.Generator.{table_size}
use Rattle.generator.proofs.Buffers.{front_zeros}
use Rattle.generator.proofs.making.pad.Goals as goal

pub returns : goal.returns
returns c =
    let z : length c.args.rows.now ≡ length c.args.rows.now - 0 = omega arith in
    put_mid-paste 0 (length c.args.rows.now - 0) (replicate table_size 0) c.copy_from_slice.new.self c.args.rows.now (length c.args.rows.now) c.copy_from_slice.ensures.after z refl
    ∙ front_zeros table_size c.args.rows.now
