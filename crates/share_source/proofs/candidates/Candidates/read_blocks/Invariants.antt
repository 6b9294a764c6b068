use Rattle.std.proofs.Common.{◌≡◌, ℕ, ◌<◌, [], get_or, take}
use Rattle.tagged_hash.specs.TaggedHash.{tagged_hash}
use Rattle.tagged_hash.specs.declared.tag.Tag.TheVariants.{Block}
use Rattle.share_layout.specs.Pieces.{pieces}
use Rattle.share_source.specs.Candidates.{AreSharesRead, leaves_held}
use Rattle.share_source.specs.Decoded.{blocks_read}
use Rattle.share_source.proofs.candidates.Candidates.read_blocks.Given as goal

abbrev pub invariant-loop-i : goal.invariant-loop-i
invariant-loop-i g l = record {
  read : AreSharesRead g.B.ShareBytes.gives g.B.ShareBytes.fails l.place l.fn.self (blocks_read (take l.i l.positions) (pieces l.i l.place.size l.blocks)) l.self;
  hashes : (k : ℕ) → k < l.i → tagged_hash Block (get_or (pieces l.i l.place.size l.blocks) k []) ≡ get_or (leaves_held l.fn.self.held (get_or l.positions k 0)) l.place.segment [];
  others : l.self ≡ record l.fn.self { bytes = l.self.bytes };
}
