use Rattle.share_source.proofs.ReadLemmas.{read_both}
use Rattle.grid_repairs.proofs.remaking.first_block.Goals as goal

pub returns-in-Some : goal.returns-in-Some
returns-in-Some g c =
    let read = read_both g.B.ShareBytes.gives g.B.ShareBytes.fails c.args.bytes.now c.loop-position.bytes c.read_block.new.bytes c.loop-position.invariant c.in_ok-block.ensures.reads in
    record { block = (rw c.in-Some.is at c.in_ok-block.ensures.block, read) }

pub loop-position-preserved : goal.loop-position-preserved
loop-position-preserved g c =
    read_both g.B.ShareBytes.gives g.B.ShareBytes.fails c.args.bytes.now c.loop-position.bytes c.read_block.new.bytes c.loop-position.invariant c.in_ok-block.ensures.reads
