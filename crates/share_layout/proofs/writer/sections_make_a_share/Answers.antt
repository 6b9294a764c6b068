use Rattle.share_layout.proofs.LawLemmas.{sections_made}
use Rattle.share_layout.proofs.writer.sections_make_a_share.Goals as goal

pub returns : goal.returns
returns c = sections_made
