use Rattle.share_layout.proofs.CutLemmas.{cut_lengths}
use Rattle.share_layout.proofs.geometry.segments_have_lengths.Goals as goal

pub returns : goal.returns
returns c = cut_lengths
