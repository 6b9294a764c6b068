use Rattle.upload_core.specs.State.{UploadState}
use Rattle.upload_core.proofs.Goes.{tick_course}
use Rattle.upload_core.proofs.Fields.{seen}
use Rattle.upload_core.proofs.state.Course.note.Goals as goal

pub invariant_of-self-2 : goal.invariant_of-self-2
invariant_of-self-2 c =
    let u : UploadState = seen c.self.inside in
    tick_course u c.args.now c.tick.new.self c.in_ok-tick.ensures.ok c.self.invariant

pub returns-clause-right : goal.returns-clause-right
returns-clause-right c = invariant_of-self-2 c
