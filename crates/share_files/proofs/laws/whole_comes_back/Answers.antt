use Rattle.share_files.proofs.Polite.{comes_back}
use Rattle.share_files.proofs.laws.whole_comes_back.Goals as goal

pub returns : goal.returns
returns c = comes_back
