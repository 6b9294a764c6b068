use Rattle.share_layout.proofs.LawLemmas.{tells_offsets}
use Rattle.share_layout.proofs.reader.headers_tell_their_offsets.Goals as goal

pub returns : goal.returns
returns c = tells_offsets
