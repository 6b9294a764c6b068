use Rattle.folder_keeping.proofs.SafeShares.{found_are_safe}
use Rattle.folder_keeping.proofs.laws.found_are_safe.Goals as goal

pub returns : goal.returns
returns g c = found_are_safe _
