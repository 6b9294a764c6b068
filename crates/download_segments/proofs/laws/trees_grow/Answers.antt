use Rattle.download_segments.proofs.TreeLemmas.{grow_none, grow_two}
use Rattle.download_segments.proofs.laws.trees_grow.Goals as goal

pub returns : goal.returns
returns c = record { none = grow_none; two = grow_two }
