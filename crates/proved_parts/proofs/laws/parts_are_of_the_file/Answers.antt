use Rattle.proved_parts.proofs.OwnParts.{parts_are_of_the_file}
use Rattle.proved_parts.proofs.laws.parts_are_of_the_file.Goals as goal

pub returns : goal.returns
returns c = parts_are_of_the_file
