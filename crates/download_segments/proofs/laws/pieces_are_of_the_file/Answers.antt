use Rattle.download_segments.proofs.AgreementLemmas.{pieces_of_file}
use Rattle.download_segments.proofs.laws.pieces_are_of_the_file.Goals as goal

pub returns : goal.returns
returns c = pieces_of_file
