use Rattle.folder_keeping.proofs.Going.{servers_are_orderly}
use Rattle.folder_keeping.proofs.serving_laws.servers_are_orderly.Goals as goal

pub returns : goal.returns
returns g c = servers_are_orderly c.hashes_have_32_bytes.ensures _
