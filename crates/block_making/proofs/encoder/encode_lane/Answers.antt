use Rattle.std.proofs.Common.{◌≡◌, ℕ, ◌+◌, ◌-◌, ◌*◌, length, ap, ◌∙◌, arith}
use Rattle.zfec_code.specs.ShareValue.{share_block}
use Rattle.file_encoding.proofs.ShareBlock.{share_block-is}
use Rattle.block_making.proofs.Lanes.{lane-other, lane-own}
use Rattle.block_making.proofs.encoder.encode_lane.Goals as goal

pub returns-clause-block : goal.returns-clause-block
returns-clause-block c =
    let k : ℕ = c.args.code.now.k in
    let size : ℕ = c.args.size in
    let long : length c.encode.new.out ≡ size = omega (arith, c.encode.auto.out, c.requires.room) in
    lane-own size c.args.lane (c.args.lane * size + size - c.args.lane * size) c.args.lanes.now c.encode.new.out c.requires.room long
    ∙ share_block-is k c.args.share c.args.padded.now c.encode.new.out c.requires.small (λ t. (c.type_inv.padded t).fits) c.encode.ensures
    ∙ ap (λ n. share_block k c.args.share n c.args.padded.now) long

pub returns-clause-others : goal.returns-clause-others
returns-clause-others c = λ i apart.
    let size : ℕ = c.args.size in
    let long : length c.encode.new.out ≡ size = omega (arith, c.encode.auto.out, c.requires.room) in
    lane-other size c.args.lane (c.args.lane * size + size - c.args.lane * size) c.args.lanes.now c.encode.new.out c.requires.room long i (omega arith) apart
