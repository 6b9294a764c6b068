use Rattle.std.proofs.Common.{refl, arith}
use Rattle.file_encoding.proofs.Decode.{cut_more}
use Rattle.file_encoding.proofs.decoding.blocks_at.Goals as goal

pub loop-share-preserved : goal.loop-share-preserved
loop-share-preserved c =
    let both = cut_more c.args.geometry.now c.args.number c.args.blocks.now c.loop-share.these.items c.push.new.self.items c.loop-share.share-index _ c.block_of.result _
    (omega (arith, c.loop-share-test.true)) c.in_ok-push.ensures.items refl c.block_of.ensures c.loop-share.invariant.numbered c.loop-share.invariant.cut_so in
    record { numbered = both.0; cut_so = both.1 }
