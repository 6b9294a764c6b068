use Rattle.local_grid.proofs.Same.{turns_back, turns_there}
use Rattle.local_grid.proofs.local.turns_of_one_process.Goals as goal

pub returns : goal.returns
returns g c = λ old new.
    (turns_there g.O.Operation.calls g.S.Store.calls g.L.Link.carries g.L.Link.gives_up old new, turns_back g.O.Operation.calls g.S.Store.calls g.L.Link.carries g.L.Link.gives_up old new)
