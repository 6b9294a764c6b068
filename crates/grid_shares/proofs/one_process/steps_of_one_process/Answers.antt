use Rattle.grid_shares.proofs.OneProcess.{steps_back, steps_there}
use Rattle.grid_shares.proofs.one_process.steps_of_one_process.Goals as goal

pub returns : goal.returns
returns g c = λ old new.
    (steps_there g.S.Store.calls g.L.Link.carries g.L.Link.gives_up old new, steps_back g.S.Store.calls g.L.Link.carries g.L.Link.gives_up old new)
