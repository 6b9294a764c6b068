use Rattle.file_encoding.proofs.Parts.{file_has_parts}
use Rattle.file_encoding.proofs.laws.file_has_parts.Goals as goal

pub returns : goal.returns
returns c = file_has_parts
