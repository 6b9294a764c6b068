use Rattle.connections.proofs.Courses.{all_came}
use Rattle.connections.proofs.laws.all_that_came_is_given.Goals as goal

pub returns : goal.returns
returns g c = λ wire side own events last course. all_came g.W.Wire.calls wire side own events last course
