use Rattle.folder_keeping.proofs.Going.{closed_are_served}
use Rattle.folder_keeping.proofs.serving_laws.closed_are_served.Goals as goal

pub returns : goal.returns
returns g c = closed_are_served c.durable_outlasts.ensures c.hashes_have_32_bytes.ensures _
