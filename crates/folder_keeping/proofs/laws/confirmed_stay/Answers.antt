use Rattle.folder_keeping.proofs.Running.{confirmed_stay}
use Rattle.folder_keeping.proofs.laws.confirmed_stay.Goals as goal

pub returns : goal.returns
returns g c = confirmed_stay c.durable_outlasts.ensures _
