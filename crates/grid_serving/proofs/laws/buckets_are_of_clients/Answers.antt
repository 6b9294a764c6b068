use Rattle.grid_serving.proofs.Owners.{stay_theirs}
use Rattle.grid_serving.proofs.laws.buckets_are_of_clients.Goals as goal

pub returns : goal.returns
returns g c = stay_theirs g.W.Wire.calls g.S.Store.calls
