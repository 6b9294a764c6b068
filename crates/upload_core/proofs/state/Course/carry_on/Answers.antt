use Rattle.std.proofs.Common.{◌∙◌, List, take, sym, subst, refl}
use Rattle.request_record.specs.declared.requests.Asked.{Asked}
use Rattle.request_record.specs.Record.{asked_all}
use Rattle.upload_core.specs.declared.transfers.Effect.TheVariants.{Carries}
use Rattle.upload_core.specs.State.{UploadState, with_record}
use Rattle.upload_core.specs.Course.{IsCourse}
use Rattle.upload_core.specs.Moves.{asks_of_server}
use Rattle.upload_core.proofs.Asks.{carries_asked}
use Rattle.upload_core.proofs.state.Course.carry_on.Goals as goal

pub ask_more-requires : goal.ask_more-requires
ask_more-requires c = λ k.
    let v : UploadState = c.args.self.now in
    subst (λ (l : List Asked). IsCourse (with_record v (asked_all (asks_of_server c.args.server (take k l)) v.requests)))
    (carries_asked v.goal v.requests.entries c.args.server c.args.asked.now Carries refl (sym c.is_given_up.ensures ∙ c.if-is_given_up.false)) (c.requires k)
