use Rattle.upload_core.specs.State.{UploadState}
use Rattle.upload_core.proofs.Goes.{taken_course}
use Rattle.upload_core.proofs.Fields.{seen}
use Rattle.upload_core.proofs.state.Course.send.Goals as goal

pub invariant_of-self : goal.invariant_of-self
invariant_of-self c =
    let u : UploadState = seen c.self.inside in
    taken_course u c.take_next.result c.take_next.new.self c.take_next.ensures c.self.invariant
