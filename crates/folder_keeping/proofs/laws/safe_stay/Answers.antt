use Rattle.folder_keeping.proofs.Running.{safe_stay}
use Rattle.folder_keeping.proofs.laws.safe_stay.Goals as goal

pub returns : goal.returns
returns g c = safe_stay c.durable_outlasts.ensures _
