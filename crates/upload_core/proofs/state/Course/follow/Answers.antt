use Rattle.std.proofs.Common.{take, subst}
use Rattle.request_record.specs.Record.{asked_all}
use Rattle.upload_core.specs.declared.transfers.Effect.{Effect}
use Rattle.upload_core.specs.State.{UploadState, with_record}
use Rattle.upload_core.specs.Course.{IsCourse}
use Rattle.upload_core.specs.Transfers.{asked_after}
use Rattle.upload_core.specs.Moves.{asks_of_server}
use Rattle.upload_core.proofs.state.Course.follow.Goals as goal

pub give_up-requires : goal.give_up-requires
give_up-requires c = λ k.
    let v : UploadState = c.args.self.now in
    subst (λ (e : Effect). IsCourse (with_record v (asked_all (asks_of_server c.args.server (take k (asked_after v.goal v.requests.entries c.args.server c.args.asked.now e))) v.requests)))
    (c.fails.ensures.0 c.if-fails.true) (c.requires k)

pub carry_on-requires : goal.carry_on-requires
carry_on-requires c = λ k.
    let v : UploadState = c.args.self.now in
    subst (λ (e : Effect). IsCourse (with_record v (asked_all (asks_of_server c.args.server (take k (asked_after v.goal v.requests.entries c.args.server c.args.asked.now e))) v.requests)))
    (c.carries.ensures.0 c.if-carries.true) (c.requires k)
