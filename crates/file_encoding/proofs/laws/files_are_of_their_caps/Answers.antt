use Rattle.file_encoding.proofs.Parts.{files_of_caps}
use Rattle.file_encoding.proofs.laws.files_are_of_their_caps.Goals as goal

pub returns : goal.returns
returns c = files_of_caps
