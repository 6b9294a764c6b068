use Rattle.download_segments.proofs.AgreementLemmas.{pieces_agree}
use Rattle.download_segments.proofs.laws.pieces_agree.Goals as goal

pub returns : goal.returns
returns c = pieces_agree
