use Rattle.proved_parts.proofs.Files.{files_of_caps_have_parts}
use Rattle.proved_parts.proofs.laws.files_of_caps_have_parts.Goals as goal

pub returns : goal.returns
returns c = files_of_caps_have_parts
