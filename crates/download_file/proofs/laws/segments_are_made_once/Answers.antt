use Rattle.download_file.proofs.WholeLemmas.{segments_are_made_once}
use Rattle.download_file.proofs.laws.segments_are_made_once.Goals as goal

pub returns : goal.returns
returns c = segments_are_made_once
