use Rattle.connections.proofs.Courses.{all_heard}
use Rattle.connections.proofs.laws.what_is_queued_is_given.Goals as goal

pub returns : goal.returns
returns g c = λ there side own said speaker here other_side other events hearer more speaks hears own-size size same.
    all_heard g.V.Wire.calls g.W.Wire.calls there side own said speaker here other_side other events hearer more speaks hears own-size size same
