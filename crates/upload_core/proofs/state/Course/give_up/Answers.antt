use Rattle.std.proofs.Common.{◌∙◌, sym, refl}
use Rattle.std.specs.Prelude.{option_to_list}
use Rattle.upload_core.specs.declared.transfers.Effect.TheVariants.{Fails}
use Rattle.upload_core.specs.State.{UploadState}
use Rattle.upload_core.specs.Transfers.{asked_after}
use Rattle.upload_core.proofs.Asks.{all_begun, fails_asked}
use Rattle.upload_core.proofs.state.Course.give_up.Goals as goal

pub ask_next-requires : goal.ask_next-requires
ask_next-requires c =
    let v : UploadState = c.args.self.now in
    all_begun v c.args.server (asked_after v.goal v.requests.entries c.args.server c.args.asked.now Fails) (option_to_list c.given_up.result)
    (c.given_up.ensures ∙ sym (fails_asked v.goal v.requests.entries c.args.server c.args.asked.now Fails refl (sym c.is_given_up.ensures ∙ c.if-is_given_up.false))) c.requires
