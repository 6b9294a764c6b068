use Rattle.share_files.proofs.Polite.{place_made}
use Rattle.share_files.proofs.laws.place_may_be_made.Goals as goal

pub returns : goal.returns
returns c = place_made
