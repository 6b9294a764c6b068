use Rattle.share_layout.specs.Geometry.{segment_count}
use Rattle.share_layout.proofs.CutLemmas.{piece_at}
use Rattle.share_layout.proofs.geometry.segments_are_pieces.Goals as goal

pub returns : goal.returns
returns c g number text there = piece_at (segment_count g) g.segment_size number text there
