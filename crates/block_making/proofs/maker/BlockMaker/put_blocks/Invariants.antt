use Rattle.block_making.specs.Making.{AreSlots}
use Rattle.block_making.proofs.BlockPuts.{AreReadTo, AreSoFar}
use Rattle.block_making.proofs.maker.BlockMaker.put_blocks.Given as goal

abbrev pub invariant-loop-number : goal.invariant-loop-number
invariant-loop-number g l = record {
  put : AreSoFar l.fn.self l.fn.offset l.fn.out l.out l.number;
  read : AreReadTo g.S.Source.gives g.S.Source.size g.S.Source.failures l.fn.source l.fn.self.geometry l.first l.end l.number l.source;
  slots : AreSlots l.fn.self.geometry l.fn.self.leaves l.slots;
}
