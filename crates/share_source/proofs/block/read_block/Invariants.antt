use Rattle.share_source.proofs.Opened.{IsUnderway}
use Rattle.share_source.specs.Reads.{WasRead}
use Rattle.share_source.proofs.block.read_block.Given as goal

abbrev pub invariant-reads : goal.invariant-reads
invariant-reads g l = IsUnderway g.B.ShareBytes.gives l.position l.initial.bytes l.opening l.done l.bytes × WasRead g.B.ShareBytes.gives g.B.ShareBytes.fails l.initial.bytes l.bytes
