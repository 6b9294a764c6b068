use Rattle.share_layout.proofs.LawLemmas.{locates_own}
use Rattle.share_layout.proofs.reader.shares_locate_their_blocks.Goals as goal

pub returns : goal.returns
returns c = locates_own
