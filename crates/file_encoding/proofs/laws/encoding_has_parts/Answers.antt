use Rattle.file_encoding.proofs.Parts.{encoding_has_parts}
use Rattle.file_encoding.proofs.laws.encoding_has_parts.Goals as goal

pub returns : goal.returns
returns c = encoding_has_parts
