use Rattle.std.proofs.Common.{ap}
use Rattle.share_layout.specs.Share.{Sections}
use Rattle.file_encoding.proofs.decoded.share_blocks.Goals as goal

pub returns : goal.returns
returns c = λ s is. ap (λ (t : Sections). t.blocks) (c.in-Ok.ensures.complete s is)
