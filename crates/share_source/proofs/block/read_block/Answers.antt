use Rattle.share_source.proofs.Opened.{goes_on}
use Rattle.share_source.proofs.ReadLemmas.{read_both}
use Rattle.share_source.proofs.block.read_block.Goals as goal

pub reads-preserved : goal.reads-preserved
reads-preserved g c =
    let step = rw c.in-Next.is at c.in_ok-next.ensures.goes in (
      goes_on g.B.ShareBytes.gives g.B.ShareBytes.fails c.args.position c.args.cap.now c.args.bytes.now c.reads.bytes c.read_next.new.bytes c.reads.opening c.in-Next.next c.reads.done step.0 c.reads.invariant.0 step.1 step.2,
      read_both g.B.ShareBytes.gives g.B.ShareBytes.fails c.args.bytes.now c.reads.bytes c.read_next.new.bytes c.reads.invariant.1 c.in_ok-next.ensures.reads,
    )

pub returns-in-Done-clause-reads : goal.returns-in-Done-clause-reads
returns-in-Done-clause-reads g c =
    read_both g.B.ShareBytes.gives g.B.ShareBytes.fails c.args.bytes.now c.reads.bytes c.read_next.new.bytes c.reads.invariant.1 c.in_ok-next.ensures.reads

pub returns-in-Refused-clause-reads : goal.returns-in-Refused-clause-reads
returns-in-Refused-clause-reads g c =
    read_both g.B.ShareBytes.gives g.B.ShareBytes.fails c.args.bytes.now c.reads.bytes c.read_next.new.bytes c.reads.invariant.1 c.in_ok-next.ensures.reads

pub returns-in_err-next-clause-reads : goal.returns-in_err-next-clause-reads
returns-in_err-next-clause-reads g c =
    read_both g.B.ShareBytes.gives g.B.ShareBytes.fails c.args.bytes.now c.reads.bytes c.read_next.new.bytes c.reads.invariant.1 c.in_err-next.ensures.reads
