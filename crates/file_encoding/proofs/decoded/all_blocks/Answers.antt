use Rattle.std.proofs.Common.{get_or, refl, subst}
use Rattle.file_encoding.proofs.Reread.{blocks_more, readable_at}
use Rattle.file_encoding.proofs.decoded.all_blocks.Goals as goal

pub share_blocks-requires : goal.share_blocks-requires
share_blocks-requires c =
    let some = c.requires.readable c.loop-position.position-index c.loop-position-test.true in (
      some.0,
      subst (λ (T : Type 0). T) (readable_at c.args.geometry.now c.args.shares.now (get_or c.args.positions.now c.loop-position.position-index 0) _ some.0
          (c.requires.inside c.loop-position.position-index 0 c.loop-position-test.true)) some.1,
    )

pub loop-position-preserved : goal.loop-position-preserved
loop-position-preserved c =
    blocks_more c.args.geometry.now c.args.shares.now c.loop-position.blocks.items c.push.new.self.items c.args.positions.now c.loop-position.position-index _ c.share_blocks.result _
    c.loop-position-test.true (c.requires.inside c.loop-position.position-index 0 c.loop-position-test.true) c.in_ok-push.ensures.items refl c.share_blocks.ensures c.loop-position.invariant
