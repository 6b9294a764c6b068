use Rattle.share_source.specs.Reads.{WasRead}
use Rattle.grid_repairs.proofs.remaking.first_block.Given as goal

abbrev pub invariant-loop-position : goal.invariant-loop-position
invariant-loop-position g l = WasRead g.B.ShareBytes.gives g.B.ShareBytes.fails l.initial.bytes l.bytes
