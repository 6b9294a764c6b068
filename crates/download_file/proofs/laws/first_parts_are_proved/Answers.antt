use Rattle.download_file.proofs.ProofLemmas.{first_parts_are_proved}
use Rattle.download_file.proofs.laws.first_parts_are_proved.Goals as goal

pub returns : goal.returns
returns c = first_parts_are_proved
