use Rattle.connections.proofs.Courses.{all_goes}
use Rattle.connections.proofs.laws.all_that_is_queued_goes.Goals as goal

pub returns : goal.returns
returns g c = λ wire side own events last course. all_goes g.W.Wire.calls wire side own events last course
