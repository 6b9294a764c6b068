use Rattle.carried_operations.proofs.OneProcess.{answers_back, answers_there}
use Rattle.carried_operations.proofs.one_process.answers_of_one_process.Goals as goal

pub returns : goal.returns
returns g c = λ server answer old new. (
  answers_there g.O.Operation.calls g.S.Store.calls g.L.Link.carries g.L.Link.gives_up server answer old new,
  answers_back g.O.Operation.calls g.S.Store.calls g.L.Link.carries g.L.Link.gives_up server answer old new,
)
