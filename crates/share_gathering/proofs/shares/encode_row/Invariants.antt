use Rattle.std.proofs.Common.{◌≡◌, ◌*◌, take}
use Rattle.share_layout.specs.Geometry.{block_size}
use Rattle.share_layout.specs.Pieces.{pieces}
use Rattle.share_verify.specs.Pieces.{joined}
use Rattle.file_encoding.specs.Encoding.{blocks_of}
use Rattle.share_gathering.proofs.shares.encode_row.Given as goal

abbrev pub invariant-loop-i : goal.invariant-loop-i
invariant-loop-i l = take (l.i * block_size l.geometry) l.row ≡ joined (blocks_of l.geometry.needed l.share (pieces l.i l.geometry.segment_size (take l.group.len l.segments)))
