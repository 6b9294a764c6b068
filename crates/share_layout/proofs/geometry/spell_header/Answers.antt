use Rattle.std.specs.Int.{w32, to_be_bytes}
use Rattle.share_layout.specs.Layout.{version}
use Rattle.share_layout.proofs.LayoutLemmas.{spelled_more}
use Rattle.share_layout.proofs.geometry.spell_header.Goals as goal

pub loop-i-preserved : goal.loop-i-preserved
loop-i-preserved c =
    let held = c.loop-i.invariant in
    spelled_more c.args.layout (to_be_bytes w32 (version c.args.layout)) c.args.numbers c.loop-i.out c.args.out.now c.spell.new.out
    c.loop-i.i c.width-width.result c.width-width.ensures.value c.loop-i-test.true held.0 held.1 held.2 held.3 c.spell.ensures
